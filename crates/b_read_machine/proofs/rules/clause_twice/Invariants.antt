use Rattle.std.proofs.Common.{◌≡◌, map, length}
use Rattle.b_read_machine.specs.Rules.{kind_of, has_twice}
use Rattle.b_read_machine.proofs.rules.clause_twice.Given as goal

-- the clauses that are left decide
abbrev pub invariant-loop-rest : goal.invariant-loop-rest
invariant-loop-rest l = has_twice (map kind_of l.rest) ≡ has_twice (map kind_of l.machine.clauses)

abbrev pub decreases-loop-rest : goal.decreases-loop-rest
decreases-loop-rest l = length l.rest
