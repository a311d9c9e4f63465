use Rattle.std.proofs.Common.{List, Ok, ◌∷◌, []}
use Rattle.b_meaning.specs.Meaning.{tuple_limit, binder_of}
use Rattle.b_meaning.specs.Tuples.{places_ahead}
use Rattle.b_places.specs.ScopeLaws.{inner_slots}
use Rattle.b_places.specs.Scopes.{slots_of}
use Rattle.b_values.specs.declared.values.Value.{Value}
use Rattle.b_outcomes.specs.Frames.{written}
use Rattle.b_outcomes.specs.Outcomes.{at_tuple}
use Rattle.b_outcomes.proofs.Walking.{tuple_done, such_at}
use Rattle.b_outcomes.proofs.single.such.Goals as goal

pub tuples-preserved : goal.tuples-preserved
tuples-preserved c =
    let m = binder_of tuple_limit c.args.b.now in
    let env = slots_of c.args.env.now in
    record {
      state = tuple_done (at_tuple m.test (λ (t : List Value). Ok (written c.args.first c.args.targets.now t c.args.frame.now ∷ [])) env) _ c.tuples.out (places_ahead tuple_limit m.variables env c.tuples.walk) (places_ahead tuple_limit m.variables env c.advance.new.walk) c.advance.new.walk.values c.tuples.invariant.state
          c.in-Ok-true.field-0 c.in-Ok-true.field-0-test c.in-Ok-true.ensures.found c.such_tuple.new.out _
          (such_at m.test env _ c.advance.new.walk.values (inner_slots c.args.env c.as_slice-in-Ok-true.result c.advance.new.walk.values c.as_slice-in-Ok-true.ensures) c.args.first c.args.targets.now c.args.frame.now c.as_slice.result.now c.as_slice.ensures)
          c.in-Ok.ensures;
      rests = c.in-Ok-true.ensures.rests;
      kept = c.in-Ok-true.ensures.kept;
    }
