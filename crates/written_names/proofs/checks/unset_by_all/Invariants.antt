use Rattle.std.proofs.Common.{◌≡◌, drop}
use Rattle.written_names.specs.Machines as spec
use Rattle.written_names.proofs.checks.unset_by_all.Given as goal

-- what the rest tells, the whole tells
abbrev pub invariant-loop-operation : goal.invariant-loop-operation
invariant-loop-operation l = spec.unset_by_all (drop l.operation-index l.operations) ≡ spec.unset_by_all l.operations
