use Rattle.std.proofs.Common.{◌≡◌, ◌++◌, drop}
use Rattle.type_names.specs.Machines.{operation_names}
use Rattle.type_names.proofs.machines.add_operations.Given as goal

-- what is listed, and then the rest
abbrev pub invariant-loop-operation : goal.invariant-loop-operation
invariant-loop-operation l = l.out ++ operation_names (drop l.operation-index l.operations) ≡ l.fn.out ++ operation_names l.operations
