use Rattle.std.proofs.Common.{◌≡◌, ◌++◌, reverse, length}
use Rattle.b_clauses.proofs.assembling.turned.Given as goal

-- those that are left, and then those that were found from behind
abbrev pub invariant-loop-formula : goal.invariant-loop-formula
invariant-loop-formula l = l.left ++ reverse l.found.items ≡ l.fn.formulas

abbrev pub decreases-loop-formula : goal.decreases-loop-formula
decreases-loop-formula l = length l.left
