use Rattle.std.proofs.Common.{◌≡◌, ◌∷◌, [], Ok, length}
use Rattle.b_meaning.specs.Meaning.{tuple_limit, binder_of}
use Rattle.b_meaning.specs.Tuples.{places_ahead}
use Rattle.b_places.specs.Places.{instances}
use Rattle.b_places.specs.Scopes.{slots_of}
use Rattle.b_places.specs.Walks.{IsResting, IsKeptWalk}
use Rattle.b_tree.specs.declared.Binder.{out-Binder}
use Rattle.b_outcomes.specs.Frames.{written}
use Rattle.b_outcomes.specs.Gathered.{gathers}
use Rattle.b_outcomes.specs.Outcomes.{such_that, union_of, at_tuple}
use Rattle.b_outcomes.proofs.single.such.Given as goal

abbrev pub invariant-tuples : goal.invariant-tuples
invariant-tuples l =
    let m = binder_of tuple_limit l.b in
    record {
      state : gathers l.fn.out (such_that tuple_limit l.first l.targets m l.frame (slots_of l.env)) ≡ gathers l.out (union_of (instances (at_tuple m.test (λ t. Ok (written l.first l.targets t l.frame ∷ [])) (slots_of l.env)) (places_ahead tuple_limit m.variables (slots_of l.env) l.walk)));
      rests : IsResting (length (out-Binder l.b).variables) l.walk;
      kept : IsKeptWalk l.walk;
    }

abbrev pub decreases-tuples : goal.decreases-tuples
decreases-tuples l = length (places_ahead tuple_limit (binder_of tuple_limit l.b).variables (slots_of l.env) l.walk)
