use Rattle.std.proofs.Common.{◌≡◌, drop}
use Rattle.b_machine_text.specs.Machines.{added, with_operation, expanded_operation}
use Rattle.b_machine_text.proofs.measuring.with_operations.Given as goal

-- what is found, and then the rest
abbrev pub invariant-loop-operation : goal.invariant-loop-operation
invariant-loop-operation l = added with_operation (expanded_operation l.defs.formulas.table.now.defs) l.found (drop l.operation-index l.operations) ≡ added with_operation (expanded_operation l.defs.formulas.table.now.defs) l.fn.size l.operations
