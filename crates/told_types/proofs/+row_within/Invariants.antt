use Rattle.told_types.proofs.+row_within.Given as goal

-- the steps that are left
abbrev pub decreases-row_within : goal.decreases-row_within
decreases-row_within l = l.steps
