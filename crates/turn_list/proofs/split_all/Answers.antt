use Rattle.std.proofs.Common.{arith, refl, sym, ap, ◌∙◌, ◌≡◌, ◌≤◌, ◌<◌, ◌+◌, length, subst, map}
use Rattle.std.specs.Prelude.{vec_len, vec_capacity, All}
use Rattle.std.proofs.lemmas.List.{length-map, take_all}
use Rattle.std.proofs.lemmas.List.Elements.{All-get_or}
use Rattle.turn_lock.specs.Passes.{Known, left_known, split_known}
use Rattle.turn_lock.specs.Turns.{known}
use Rattle.turn_list.specs.Lists.{ArePassesOf, all_known}
use Rattle.turn_list.proofs.AtPlaces.{same_length, pass_at, pass_set, split_more, known_more, known_before, split_known_more, all_changed}
use Rattle.turn_list.proofs.split_all.Goals as goal

pub bounds-passes-i : goal.bounds-passes-i
bounds-passes-i g c = omega (arith, same_length {g = g.V.Kept} c.args.turns.now c.loop-i.passes c.loop-i.invariant.turns)

pub split-requires-clause-turn : goal.split-requires-clause-turn
split-requires-clause-turn g c = pass_at {g = g.V.Kept} c.args.turns.now c.loop-i.passes c.loop-i.i c.index-turns-i.result c.index-passes-i.result c.loop-i.invariant.turns (omega arith) c.index-turns-i.is

pub split-requires-clause-two : goal.split-requires-clause-two
split-requires-clause-two g c =
    let long : length c.args.turns.now ≡ length c.loop-i.passes = same_length {g = g.V.Kept} c.args.turns.now c.loop-i.passes c.loop-i.invariant.turns in
    let first : length c.args.turns.now ≡ length c.args.passes.now = same_length {g = g.V.Kept} c.args.turns.now c.args.passes.now c.requires.turns in
    let within : c.loop-i.i < length (all_known {g = g.V.Kept} c.args.passes.now) = omega (arith, length-map c.args.passes.now (known {g = g.V.Kept})) in
    subst (λ (n : Known g.row.V-Entry.Denot). 2 ≤ n.shares) (sym (known_before {g = g.V.Kept} left_known (all_known c.args.passes.now) c.loop-i.passes c.loop-i.i c.index-passes-i.result within (omega arith) c.loop-i.invariant.left))
    (All-get_or (λ (n : Known g.row.V-Entry.Denot). 2 ≤ n.shares) (all_known {g = g.V.Kept} c.args.passes.now) c.loop-i.i (known {g = g.V.Kept} c.index-passes-i.result) within c.requires.two)

pub loop-i-preserved : goal.loop-i-preserved
loop-i-preserved g c =
    let long : length c.args.turns.now ≡ length c.loop-i.passes = same_length {g = g.V.Kept} c.args.turns.now c.loop-i.passes c.loop-i.invariant.turns in
    let first : length c.args.turns.now ≡ length c.args.passes.now = same_length {g = g.V.Kept} c.args.turns.now c.args.passes.now c.requires.turns in
    let within : c.loop-i.i < length (all_known {g = g.V.Kept} c.args.passes.now) = omega (arith, length-map c.args.passes.now (known {g = g.V.Kept})) in record {
      turns = pass_set {g = g.V.Kept} c.args.turns.now c.loop-i.passes c.loop-i.i c.index-turns-i.result c.split.new.pass c.loop-i.invariant.turns (omega arith) c.index-turns-i.is c.split.ensures.left.0;
      left = known_more {g = g.V.Kept} left_known (all_known c.args.passes.now) c.loop-i.passes c.loop-i.i c.index-passes-i.result c.split.new.pass within (omega arith) c.loop-i.invariant.left c.split.ensures.left.1;
      split_turns = split_more {g = g.V.Kept} c.args.turns.now c.loop-i.split.items c.push_reserved.new.self.items c.loop-i.i c.index-turns-i.result c.split.result (omega arith) c.index-turns-i.is c.push_reserved.ensures.items
          c.loop-i.invariant.split_turns c.split.ensures.split.0;
      split = split_known_more {g = g.V.Kept} left_known split_known (all_known c.args.passes.now) c.loop-i.passes c.loop-i.split.items c.push_reserved.new.self.items c.loop-i.i c.index-passes-i.result c.split.result within (omega arith)
          c.loop-i.invariant.left c.push_reserved.ensures.items c.split.ensures.split.1 c.loop-i.invariant.split;
      count = omega (arith, c.push_reserved.ensures.len, c.loop-i.invariant.count);
      room = omega (arith, c.push_reserved.ensures.capacity, c.loop-i.invariant.room);
    }

pub returns-clause-left : goal.returns-clause-left
returns-clause-left g c = let first : length c.args.turns.now ≡ length c.args.passes.now = same_length {g = g.V.Kept} c.args.turns.now c.args.passes.now c.requires.turns in
    all_changed left_known (all_known c.args.passes.now) (all_known c.loop-i.passes) c.loop-i.i (omega (arith, c.loop-i-test.false, length-map c.args.passes.now (known {g = g.V.Kept}))) c.loop-i.invariant.left

pub returns-clause-split : goal.returns-clause-split
returns-clause-split g c = let first : length c.args.turns.now ≡ length c.args.passes.now = same_length {g = g.V.Kept} c.args.turns.now c.args.passes.now c.requires.turns in (
  subst (λ ts. ArePassesOf {g = g.V.Kept} ts c.loop-i.split.items) (take_all c.loop-i.i c.args.turns.now c.loop-i-test.false) c.loop-i.invariant.split_turns,
  c.loop-i.invariant.split ∙ ap (map split_known) (take_all c.loop-i.i (all_known c.args.passes.now) (omega (arith, c.loop-i-test.false, length-map c.args.passes.now (known {g = g.V.Kept})))),
)
