use Rattle.std.proofs.Common.{◌≡◌, ◌++◌, reverse, length}
use Rattle.b_clauses.proofs.parting.with_texts.Given as goal

-- those that are left, and then those that were found from behind
abbrev pub invariant-loop-text : goal.invariant-loop-text
invariant-loop-text l = l.left ++ reverse l.all.items ≡ l.fn.more ++ reverse l.fn.found.items

abbrev pub decreases-loop-text : goal.decreases-loop-text
decreases-loop-text l = length l.left
