use Rattle.std.proofs.Common.{rules, ◌≡◌, ◌∙◌, sym, ap, ◌≤◌, length, arith}
use Rattle.animator.specs.Names.{place}
use Rattle.animator.proofs.Places.{place-le, place-push}
use Rattle.host_top.proofs.Placing.{placed_push, named_push}
use Rattle.host_top.proofs.names.Names.name.Goals as goal

pub invariant_of-self-in_ok-push : goal.invariant_of-self-in_ok-push
invariant_of-self-in_ok-push c =
    let absent : length c.self.inside.states ≤ place c.self.inside.states c.args.state.now = search rules in
    rw (c.in_ok-push.ensures.ok, c.in_ok-copy.ensures) (placed_push c.self.inside.states c.args.state.now c.self.invariant absent)

pub returns-in_ok-push-clause-named : goal.returns-in_ok-push-clause-named
returns-in_ok-push-clause-named c =
    let absent : length c.self.inside.states ≤ place c.self.inside.states c.args.state.now = search rules in
    rw (c.in_ok-push.ensures.ok, c.in_ok-copy.ensures) (named_push c.self.inside.states c.args.state.now absent)

pub returns-in_ok-push-clause-number : goal.returns-in_ok-push-clause-number
returns-in_ok-push-clause-number c =
    let absent : length c.self.inside.states ≤ place c.self.inside.states c.args.state.now = search rules in
    let number : c.place_in-number.result ≡ length c.self.inside.states = search rules in
    rw (c.in_ok-push.ensures.ok, c.in_ok-copy.ensures) (number ∙ sym (place-push c.self.inside.states c.args.state.now absent))

pub returns-else-number-len-clause-named : goal.returns-else-number-len-clause-named
returns-else-number-len-clause-named c = let within = place-le c.self.inside.states c.args.state.now in grind (arith, within)

pub returns-else-number-len-clause-exact : goal.returns-else-number-len-clause-exact
returns-else-number-len-clause-exact c = let within = place-le c.self.inside.states c.args.state.now in grind (arith, within)
