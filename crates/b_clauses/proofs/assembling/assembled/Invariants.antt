use Rattle.std.proofs.Common.{◌≡◌, fold, reverse, length}
use Rattle.b_clauses.specs.Clauses as spec
use Rattle.b_clauses.proofs.assembling.assembled.Given as goal

-- the text so far, and then the clauses that are left, from behind
abbrev pub invariant-loop-clause : goal.invariant-loop-clause
invariant-loop-clause l = fold spec.with_clause l.text (reverse l.left.items) ≡ spec.assembled l.fn.name (reverse l.fn.turned.items)

abbrev pub decreases-loop-clause : goal.decreases-loop-clause
decreases-loop-clause l = length l.left.items
