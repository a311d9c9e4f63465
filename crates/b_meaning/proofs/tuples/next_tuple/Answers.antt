use Rattle.b_meaning.specs.Meaning.{tuple_limit, binder_of, ranges_in, limit_fault}
use Rattle.b_meaning.specs.Tuples.{places_ahead, places_after}
use Rattle.b_places.specs.Scopes.{slots_of}
use Rattle.b_places.specs.WalkLaws.{started_ahead, next_fault}
use Rattle.b_meaning.proofs.tuples.next_tuple.Goals as goal

pub returns-in-Err-Fault : goal.returns-in-Err-Fault
returns-in-Err-Fault c =
    let vs = (binder_of tuple_limit c.args.b.now).variables in
    let env = slots_of c.args.env.now in
    next_fault (places_ahead tuple_limit vs env c.in-Ok.walk) (places_after tuple_limit vs env c.args.last) (places_ahead tuple_limit vs env c.advance.new.walk) c.advance.new.walk.values c.in-Err-Fault.field-0 c.in-Err-Fault.f
    (started_ahead (limit_fault vs) tuple_limit (ranges_in vs) env c.args.last c.in-Ok.walk c.in-Ok.ensures) c.in-Err-Fault.field-0-is c.in-Err-Fault.ensures.found
