use Rattle.std.proofs.Common.{◌≡◌, map, drop}
use Rattle.b_ranges.specs.Conjuncts as spec
use Rattle.b_ranges.proofs.conjuncts.+conjuncts.Given as goal

-- the conjuncts so far, and those of the rest
abbrev pub invariant-each_joined-loop-clause : goal.invariant-each_joined-loop-clause
invariant-each_joined-loop-clause l = spec.each_joined (map (spec.clause_reading l.slots) (drop l.clause-index l.clauses)) (drop l.clause-index l.clauses) l.so_far ≡ spec.each_joined (map (spec.clause_reading l.slots) l.clauses) l.clauses l.fn.first
