use Rattle.std.proofs.Common.{◌≡◌, drop}
use Rattle.type_demands.specs.Scopes.{scope_of}
use Rattle.type_substs.specs.Told.{told, with_targets}
use Rattle.type_substs.proofs.parts.tell_targets.Given as goal

-- what is told, and then the rest
abbrev pub invariant-loop-name : goal.invariant-loop-name
invariant-loop-name l = record {
  tells : with_targets (drop l.name-index l.names) (scope_of l.frames) (told l.out.items l.next) ≡ with_targets l.names (scope_of l.frames) (told l.fn.out.items l.fn.next);
  demands : (with_targets (drop l.name-index l.names) (scope_of l.frames) (told l.out.items l.next)).demands ≡ (with_targets l.names (scope_of l.frames) (told l.fn.out.items l.fn.next)).demands;
  parts : (with_targets (drop l.name-index l.names) (scope_of l.frames) (told l.out.items l.next)).next ≡ (with_targets l.names (scope_of l.frames) (told l.fn.out.items l.fn.next)).next;
}
