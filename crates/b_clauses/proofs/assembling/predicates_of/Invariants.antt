use Rattle.std.proofs.Common.{◌≡◌, ◌++◌, map, reverse, length}
use Rattle.b_clauses.specs.Clauses.{predicate}
use Rattle.b_clauses.proofs.assembling.predicates_of.Given as goal

-- those so far, and then those that are left, from behind
abbrev pub invariant-loop-formula : goal.invariant-loop-formula
invariant-loop-formula l = l.predicates ++ map predicate (reverse l.left.items) ≡ map predicate (reverse l.fn.turned.items)

abbrev pub decreases-loop-formula : goal.decreases-loop-formula
decreases-loop-formula l = length l.left.items
