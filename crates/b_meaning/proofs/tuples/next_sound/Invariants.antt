use Rattle.std.proofs.Common.{◌≡◌, length}
use Rattle.b_meaning.specs.Meaning.{tuple_limit, binder_of}
use Rattle.b_meaning.specs.Tuples.{places_ahead, places_after, IsAt}
use Rattle.b_places.specs.Places.{sound}
use Rattle.b_places.specs.Scopes.{slots_of}
use Rattle.b_tree.specs.declared.Binder.{out-Binder}
use Rattle.b_meaning.proofs.tuples.next_sound.Given as goal

abbrev pub invariant-places : goal.invariant-places
invariant-places l = record {
  state : sound (places_after tuple_limit (binder_of tuple_limit l.b).variables (slots_of l.env) l.fn.last) ≡ sound (places_ahead tuple_limit (binder_of tuple_limit l.b).variables (slots_of l.env) l.walk);
  at : IsAt (length (out-Binder l.b).variables) l.walk;
}

abbrev pub decreases-places : goal.decreases-places
decreases-places l = length (places_ahead tuple_limit (binder_of tuple_limit l.b).variables (slots_of l.env) l.walk)
