use Rattle.std.proofs.Common.{◌≡◌, ◌++◌, reverse, length}
use Rattle.b_clauses.specs.Clauses.{definitions_in, others_in}
use Rattle.b_clauses.proofs.parting.parts_of.Given as goal

-- those that are left, and then those that were found from behind
abbrev pub invariant-loop-clause : goal.invariant-loop-clause
invariant-loop-clause l = record {
  texts : definitions_in l.left ++ reverse l.found.texts.items ≡ definitions_in l.fn.clauses;
  others : others_in l.left ++ reverse l.found.others.items ≡ others_in l.fn.clauses;
}

abbrev pub decreases-loop-clause : goal.decreases-loop-clause
decreases-loop-clause l = length l.left
