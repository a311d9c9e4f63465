use Rattle.std.proofs.Common.{length}
use Rattle.b_places.specs.Walks.{IsResting, IsKeptWalk}
use Rattle.b_tree.specs.declared.Binder.{out-Binder}
use Rattle.eval_rows.proofs.tuples.places_text.Given as goal

abbrev pub invariant-places : goal.invariant-places
invariant-places l = record {
  rests : IsResting (length (out-Binder l.b).variables) l.walk;
  kept : IsKeptWalk l.walk;
}
