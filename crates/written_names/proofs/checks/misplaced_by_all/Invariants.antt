use Rattle.std.proofs.Common.{◌≡◌, drop}
use Rattle.written_names.specs.Names.{has}
use Rattle.written_names.specs.Machines as spec
use Rattle.written_names.proofs.checks.misplaced_by_all.Given as goal

-- what the rest tells, the whole tells
abbrev pub invariant-loop-operation : goal.invariant-loop-operation
invariant-loop-operation l = spec.misplaced_by_all (has l.variables) (drop l.operation-index l.operations) ≡ spec.misplaced_by_all (has l.variables) l.operations
