use Rattle.std.proofs.Common.{◌≡◌, drop}
use Rattle.type_demands.specs.Scopes.{scope_of}
use Rattle.type_substs.specs.Told.{told, with_all_alike}
use Rattle.type_substs.proofs.parts.tell_all_alike.Given as goal

-- what is told, and then the rest
abbrev pub invariant-loop-e : goal.invariant-loop-e
invariant-loop-e l = record {
  tells : with_all_alike l.fn.part (drop l.e-index l.es) (scope_of l.fn.frames.items) (told l.out.items l.next) ≡ with_all_alike l.fn.part l.es (scope_of l.fn.frames.items) (told l.fn.out.items l.fn.next);
  demands : (with_all_alike l.fn.part (drop l.e-index l.es) (scope_of l.fn.frames.items) (told l.out.items l.next)).demands ≡ (with_all_alike l.fn.part l.es (scope_of l.fn.frames.items) (told l.fn.out.items l.fn.next)).demands;
  parts : (with_all_alike l.fn.part (drop l.e-index l.es) (scope_of l.fn.frames.items) (told l.out.items l.next)).next ≡ (with_all_alike l.fn.part l.es (scope_of l.fn.frames.items) (told l.fn.out.items l.fn.next)).next;
  frames : l.frames.items ≡ l.fn.frames.items;
}
