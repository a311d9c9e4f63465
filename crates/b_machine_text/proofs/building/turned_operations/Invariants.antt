use Rattle.std.proofs.Common.{◌≡◌, map, length, reverse}
use Rattle.b_expand.specs.Expansion.{all_of}
use Rattle.b_machine_text.specs.Limits.{AreOperationsWithin}
use Rattle.b_machine_text.specs.Machines.{expanded_operation}
use Rattle.b_machine_text.proofs.Fitting.{before}
use Rattle.b_machine_text.proofs.building.turned_operations.Given as goal

-- what is left fits, and stands before what was found from behind
abbrev pub invariant-loop-next : goal.invariant-loop-next
invariant-loop-next l = record {
  fits : AreOperationsWithin l.defs.formulas.table.now.defs l.left;
  found : before (all_of (map (expanded_operation l.defs.formulas.table.now.defs) l.left)) (reverse l.found.items) ≡ all_of (map (expanded_operation l.defs.formulas.table.now.defs) l.fn.operations);
}

abbrev pub decreases-loop-next : goal.decreases-loop-next
decreases-loop-next l = length l.left
