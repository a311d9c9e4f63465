use Rattle.std.proofs.Common.{◌≡◌, drop}
use Rattle.type_demands.specs.Scopes.{scope_of}
use Rattle.type_substs.specs.Told.{told}
use Rattle.b_types.specs.Machines.{with_predicates}
use Rattle.b_types.proofs.clauses.tell_predicates.Given as goal

-- what is told, and then the rest
abbrev pub invariant-loop-p : goal.invariant-loop-p
invariant-loop-p l = record {
  tells : with_predicates (drop l.p-index l.ps) (scope_of l.fn.frames.items) (told l.out.items l.next) ≡ with_predicates l.ps (scope_of l.fn.frames.items) (told l.fn.out.items l.fn.next);
  demands : (with_predicates (drop l.p-index l.ps) (scope_of l.fn.frames.items) (told l.out.items l.next)).demands ≡ (with_predicates l.ps (scope_of l.fn.frames.items) (told l.fn.out.items l.fn.next)).demands;
  parts : (with_predicates (drop l.p-index l.ps) (scope_of l.fn.frames.items) (told l.out.items l.next)).next ≡ (with_predicates l.ps (scope_of l.fn.frames.items) (told l.fn.out.items l.fn.next)).next;
  frames : l.frames.items ≡ l.fn.frames.items;
}
