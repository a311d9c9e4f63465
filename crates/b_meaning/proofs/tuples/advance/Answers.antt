use Rattle.std.proofs.Common.{ℕ, subst}
use Rattle.b_meaning.specs.Meaning.{binder_of}
use Rattle.b_meaning.specs.Tuples.{places_ahead}
use Rattle.b_places.specs.Scopes.{slots_of}
use Rattle.b_places.specs.Walks.{Finds}
use Rattle.b_meaning.proofs.tuples.advance.Goals as goal

pub returns-clause-found : goal.returns-clause-found
returns-clause-found c =
    let env = slots_of c.args.env.now in
    subst (λ (n : ℕ). Finds (places_ahead n (binder_of n c.args.b.now).variables env c.args.walk.now) c.advance_in.new.walk.values (places_ahead n (binder_of n c.args.b.now).variables env c.advance_in.new.walk) c.advance_in.result)
    c.tuple_limit.ensures c.advance_in.ensures.found
