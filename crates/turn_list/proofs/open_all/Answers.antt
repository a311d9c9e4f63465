use Rattle.std.proofs.Common.{arith, refl, sym, ap, ◌∙◌, ◌≡◌, ◌+◌, ◌∷◌, [], length}
use Rattle.std.specs.Vec.Iter.{into_iter_items, into_iter_len}
use Rattle.std.proofs.lemmas.List.Elements.{All-rest}
use Rattle.turn_lock.specs.Passes.{first_known}
use Rattle.turn_lock.specs.Turns.{known, tag_of}
use Rattle.turn_list.proofs.AtPlaces.{opened_more, front_moves, front_ends}
use Rattle.turn_list.proofs.open_all.Goals as goal

pub loop-value-preserved : goal.loop-value-preserved
loop-value-preserved g c =
    let taken : into_iter_items c.loop-value.value-iterator ≡ c.in-Some.value ∷ into_iter_items c.next.new.self = c.in-Some.ensures.steps.0 in
    let shorter : into_iter_len c.next.new.self + 1 ≡ into_iter_len c.loop-value.value-iterator = c.in-Some.ensures.steps.1 in record {
      length_is = omega (arith, shorter, ap length taken, c.loop-value.invariant.length_is);
      rest = All-rest (λ (v : g.row.V.Denot). g.V.Kept.fits (g.V.Kept.tag v) v × (g.V.Kept.history v ≡ [])) c.in-Some.value _ _ taken c.loop-value.invariant.rest;
      turns = opened_more {g = g.V.Kept} c.loop-value.turns.items c.push.new.self.items c.loop-value.passes.items c.push-in-loop-value.new.self.items c.in_ok-turn.turn c.in_ok-turn.pass
          c.in_ok-push.ensures.items c.in_ok-push-2.ensures.items c.loop-value.invariant.turns c.in_ok-turn.ensures.turn.0;
      tags = front_moves (tag_of g.V.Kept.tag) g.V.Kept.tag c.loop-value.turns.items c.push.new.self.items c.in_ok-turn.turn _ _ c.in-Some.value _ c.in_ok-push.ensures.items taken c.in_ok-turn.ensures.turn.1 c.loop-value.invariant.tags;
      passes = front_moves (known {g = g.V.Kept}) (λ _. first_known) c.loop-value.passes.items c.push-in-loop-value.new.self.items c.in_ok-turn.pass _ _ c.in-Some.value _ c.in_ok-push-2.ensures.items taken c.in_ok-turn.ensures.pass
          c.loop-value.invariant.passes;
    }

pub returns-clause-passes : goal.returns-clause-passes
returns-clause-passes g c = front_ends (known {g = g.V.Kept}) (λ _. first_known) c.loop-value.passes.items _ _ _ (omega (arith, c.loop-value.invariant.length_is, c.in-None.ensures.steps.0)) c.loop-value.invariant.passes
    c.into_iter-value-iterator.ensures.into_iter_gives.0
