use Rattle.std.proofs.Common.{◌≡◌, drop}
use Rattle.type_demands.specs.Scopes.{scope_of}
use Rattle.type_substs.specs.Told.{told}
use Rattle.b_types.specs.Machines.{with_operations}
use Rattle.b_types.proofs.clauses.tell_operations.Given as goal

-- what is told, and then the rest
abbrev pub invariant-loop-operation : goal.invariant-loop-operation
invariant-loop-operation l = record {
  tells : with_operations l.declared.names (drop l.operation-index l.operations) l.at (scope_of l.fn.frames.items) (told l.out.items l.next) ≡ with_operations l.declared.names l.operations l.fn.first (scope_of l.fn.frames.items) (told l.fn.out.items l.fn.next);
  demands : (with_operations l.declared.names (drop l.operation-index l.operations) l.at (scope_of l.fn.frames.items) (told l.out.items l.next)).demands ≡ (with_operations l.declared.names l.operations l.fn.first (scope_of l.fn.frames.items) (told l.fn.out.items l.fn.next)).demands;
  parts : (with_operations l.declared.names (drop l.operation-index l.operations) l.at (scope_of l.fn.frames.items) (told l.out.items l.next)).next ≡ (with_operations l.declared.names l.operations l.fn.first (scope_of l.fn.frames.items) (told l.fn.out.items l.fn.next)).next;
  frames : l.frames.items ≡ l.fn.frames.items;
}
