use Rattle.told_types.proofs.+type_within.Given as goal

-- how deep the type may still be
abbrev pub decreases-type_within : goal.decreases-type_within
decreases-type_within l = l.deep
