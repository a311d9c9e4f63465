use Rattle.std.proofs.Common.{List, ℕ, Bool, Ok, Err, ◌≡◌, ◌++◌, ◌∷◌, [], length, length-append, map, get_or, arith, sym, ap, ◌∙◌, subst}
use Rattle.std.specs.Global.{Vec}
use Rattle.b_meaning.specs.Meaning.{VariableMeaning, variable_of, ranges_in, first_place, value_of, member_of, sides_of, meaning_of, each, negated, tested, is_couple}
use Rattle.b_meaning.specs.Tuples.{places_ahead}
use Rattle.b_places.specs.PlaceLaws.{couple_value}
use Rattle.b_places.specs.Places.{couple_of}
use Rattle.b_places.specs.ScopeLaws.{inner_slots}
use Rattle.b_places.specs.Scopes.{Slots, slots_of}
use Rattle.b_places.specs.Walks.{left_in, to_come, pending, Finds, OnPlace, IsKeptWalk, IsResting}
use Rattle.b_places.specs.declared.walk.Stand.{Stand}
use Rattle.b_rows.specs.Answers.{placed, Means}
use Rattle.b_rows.specs.Tests.{part}
use Rattle.b_rows.specs.Rows.{partial_result}
use Rattle.b_tree.specs.declared.Binder.{out-Binder}
use Rattle.b_tree.specs.declared.ExprTree.{ExprTree}
use Rattle.b_tree.specs.declared.Variable.{Variable}
use Rattle.b_tree.specs.declared.operators.Membership.{Membership}
use Rattle.b_values.specs.Values.{IsKept}
use Rattle.b_values.specs.declared.values.Value.{Value}
use Rattle.b_meaning.proofs.Asking.{length_ranges, asks_for, asks_faulty, asks_stands, stopped, finds_from, stops_from, stop_rests, stop_kept, stands_by, stands_with, settled}
use Rattle.b_meaning.proofs.Loops.{listed, unlisted, listed_base, unlisted_base, followed, unfollowed, joins, unjoined, one_more_value, some_more_value}
use Rattle.b_meaning.proofs.Powers.{power_base, power_stop}
use Rattle.b_meaning.proofs.Trees.{for_all_truth, comprehension_value, comprehension_stop, collected_value, between_value, over_member, binder_variables, cut_stops}
use Rattle.b_meaning.proofs.Then.{both_true}
use Rattle.b_meaning.proofs.Walking.{all_goes_on, all_decides, all_stops, those_takes, gathers, gather_stops, gathered_all, gather_faults, total_goes_on, total_faults, total_stops, totalled_all, total_ends_faulty}
use Rattle.b_meaning.proofs.evaluation.+eval.Goals as goal

-- ---- operands

pub eval_all-returns-in-Err-clause-value : goal.eval_all-returns-in-Err-clause-value
eval_all-returns-in-Err-clause-value t c = unlisted c.args.limit (slots_of c.args.env.now) _ c.args.es.now c.loop-e.values.items c.loop-e.e-index c.e-item.result c.loop-e-test.true c.e-item.is c.loop-e.invariant.state (λ (v : Vec Value). v.items) c.in-Err.s c.in-Err.ensures.value

pub eval_all-loop-e-preserved : goal.eval_all-loop-e-preserved
eval_all-loop-e-preserved t c = record {
  state = listed c.args.limit (slots_of c.args.env.now) _ c.args.es.now c.loop-e.values.items c.loop-e.e-index c.e-item.result c.loop-e-test.true c.e-item.is c.loop-e.invariant.state c.in-Ok.v _ c.in-Ok.ensures.value c.in-Ok-push.ensures.ok;
  kept = one_more_value c.loop-e.values.items c.push.new.found.items c.in-Ok.v c.in-Ok-push.ensures.ok c.loop-e.invariant.kept c.in-Ok.ensures.kept.value;
}

-- ---- binders

pub holds_in-returns-in-ForAll : goal.holds_in-returns-in-ForAll
holds_in-returns-in-ForAll t c = for_all_truth c.args.limit c.args.p.now c.in-ForAll.u c.get-in-ForAll.result.now (slots_of c.args.env.now) c.for_all.result c.in-ForAll.is c.get-in-ForAll.ensures c.for_all.ensures

pub eval_in-returns-in-Ok-tuples_passing-clause-value : goal.eval_in-returns-in-Ok-tuples_passing-clause-value
eval_in-returns-in-Ok-tuples_passing-clause-value t c = comprehension_value c.args.limit c.args.e.now c.in-Comprehension.at c.in-Comprehension.b c.get-in-Comprehension.result.now (slots_of c.args.env.now) c.in-Comprehension.is c.get-in-Comprehension.ensures c.in-Ok-tuples_passing.values.items c.gather-in-Ok-tuples_passing.result c.in-Ok-tuples_passing.ensures.value c.gather-in-Ok-tuples_passing.ensures.value

pub eval_in-returns-in-Err-tuples_passing-clause-value : goal.eval_in-returns-in-Err-tuples_passing-clause-value
eval_in-returns-in-Err-tuples_passing-clause-value t c = comprehension_stop c.args.limit c.args.e.now c.in-Comprehension.at c.in-Comprehension.b c.get-in-Comprehension.result.now (slots_of c.args.env.now) c.in-Comprehension.is c.get-in-Comprehension.ensures (λ (v : Vec Value). v.items) c.in-Err-tuples_passing.s c.in-Err-tuples_passing.ensures.value

pub eval_in-returns-in-Between-clause-value : goal.eval_in-returns-in-Between-clause-value
eval_in-returns-in-Between-clause-value t c = between_value c.args.limit c.args.e.now c.in-Between.op c.in-Between.at c.in-Between.sides c.get-in-Between.result.now (slots_of c.args.env.now) c.set_between.result c.in-Between.is c.get-in-Between.ensures c.set_between.ensures.value

pub eval_in-returns-in-Collected-clause-value : goal.eval_in-returns-in-Collected-clause-value
eval_in-returns-in-Collected-clause-value t c = collected_value c.args.limit c.args.e.now c.in-Collected.c c.in-Collected.at c.in-Collected.k c.get-in-Collected.result.now (slots_of c.args.env.now) c.collected.result c.in-Collected.is c.get-in-Collected.ensures c.collected.ensures.value

pub member_in-returns-in-Over : goal.member_in-returns-in-Over
member_in-returns-in-Over t c = over_member c.args.limit c.args.e.now c.in-Over.f _ c.in-Over.s c.get.result.now c.args.v.now (slots_of c.args.env.now) c.is_over.result c.in-Over.is c.get.ensures c.is_over.ensures

-- ---- quantifiers

pub for_all-returns-in-Ok-false-implied_in : goal.for_all-returns-in-Ok-false-implied_in
for_all-returns-in-Ok-false-implied_in t c = all_decides c.args.limit c.args.u.now (slots_of c.args.env.now) c.tuples.walk c.advance_in.new.walk _ c.tuples.invariant.state c.in-Ok-true.field-0 c.in-Ok-true.field-0-test c.in-Ok-true.ensures.found
    _ (inner_slots c.args.env c.as_slice.result c.advance_in.new.walk.values c.as_slice.ensures) c.in-Ok-false-implied_in.field-0 c.in-Ok-false-implied_in.field-0-test c.in-Ok-false-implied_in.ensures

pub for_all-returns-in-Err-implied_in : goal.for_all-returns-in-Err-implied_in
for_all-returns-in-Err-implied_in t c = all_stops c.args.limit c.args.u.now (slots_of c.args.env.now) c.tuples.walk c.advance_in.new.walk _ c.tuples.invariant.state c.in-Ok-true.field-0 c.in-Ok-true.field-0-test c.in-Ok-true.ensures.found
    _ (inner_slots c.args.env c.as_slice.result c.advance_in.new.walk.values c.as_slice.ensures) c.in-Err-implied_in.s c.in-Err-implied_in.ensures

pub for_all-tuples-preserved : goal.for_all-tuples-preserved
for_all-tuples-preserved t c = record {
  state = all_goes_on c.args.limit c.args.u.now (slots_of c.args.env.now) c.tuples.walk c.advance_in.new.walk _ c.tuples.invariant.state c.in-Ok-true.field-0 c.in-Ok-true.field-0-test c.in-Ok-true.ensures.found
      _ (inner_slots c.args.env c.as_slice.result c.advance_in.new.walk.values c.as_slice.ensures) c.in-Ok-true-implied_in.field-0 c.in-Ok-true-implied_in.field-0-test c.in-Ok-true-implied_in.ensures;
  rests = c.in-Ok-true.ensures.rests;
  kept = c.in-Ok-true.ensures.kept;
}

-- ---- chains

pub eval_bases-returns-in-Err-clause-value : goal.eval_bases-returns-in-Err-clause-value
eval_bases-returns-in-Err-clause-value t c = unlisted_base c.args.limit (slots_of c.args.env.now) _ c.args.powers.now c.loop-power.values.items c.loop-power.power-index c.power-item.result c.loop-power-test.true c.power-item.is c.loop-power.invariant.state (λ (v : Vec Value). v.items) c.in-Err.s
    (power_stop c.args.limit c.power-item.result (slots_of c.args.env.now) c.in-Err.s c.in-Err.ensures.value)

pub eval_bases-loop-power-preserved : goal.eval_bases-loop-power-preserved
eval_bases-loop-power-preserved t c = record {
  state = listed_base c.args.limit (slots_of c.args.env.now) _ c.args.powers.now c.loop-power.values.items c.loop-power.power-index c.power-item.result c.loop-power-test.true c.power-item.is c.loop-power.invariant.state c.in-Ok.v _
      (power_base c.args.limit c.power-item.result (slots_of c.args.env.now) ∙ c.in-Ok.ensures.value) c.in-Ok-push.ensures.ok;
  count = (let a = ap (λ (l : List Value). length l) c.in-Ok-push.ensures.ok in let b = length-append c.loop-power.values.items (c.in-Ok.v ∷ []) in let d = c.loop-power.invariant.count in omega (arith, a, b, d));
}

pub follow_all-returns-in-Err-clause-value : goal.follow_all-returns-in-Err-clause-value
follow_all-returns-in-Err-clause-value t c = unfollowed c.args.limit (slots_of c.args.env.now) _ c.args.links.now c.loop-link.value c.loop-link.link-index c.link-item.result c.loop-link-test.true c.link-item.is c.loop-link.invariant.state c.in-Err.s c.in-Err.ensures.value

pub follow_all-loop-link-preserved : goal.follow_all-loop-link-preserved
follow_all-loop-link-preserved t c = record {
  state = followed c.args.limit (slots_of c.args.env.now) _ c.args.links.now c.loop-link.value c.loop-link.link-index c.link-item.result c.loop-link-test.true c.link-item.is c.loop-link.invariant.state c.in-Ok.next _ c.in-Ok.ensures.value c.renewed-value.ensures;
  kept = subst IsKept (sym c.renewed-value.ensures) c.in-Ok.ensures.kept;
}

pub join_all-returns-in-Err : goal.join_all-returns-in-Err
join_all-returns-in-Err t c = unjoined c.args.limit (slots_of c.args.env.now) _ c.args.clauses.now c.loop-clause.truth c.loop-clause.clause-index c.clause-item.result c.loop-clause-test.true c.clause-item.is c.loop-clause.invariant c.in-Err.s c.in-Err.ensures

pub join_all-loop-clause-preserved : goal.join_all-loop-clause-preserved
join_all-loop-clause-preserved t c = joins c.args.limit (slots_of c.args.env.now) _ c.args.clauses.now c.loop-clause.truth c.loop-clause.clause-index c.clause-item.result c.loop-clause-test.true c.clause-item.is c.loop-clause.invariant c.in-Ok.b c.in-Ok.ensures

-- ---- what is gathered

pub tuples_passing-tuples-preserved-in-Ok : goal.tuples_passing-tuples-preserved-in-Ok
tuples_passing-tuples-preserved-in-Ok t c =
    let p = subst (λ (l : List Value). c.push_couple.new.found.items ≡ c.tuples.found.items ++ couple_of l ∷ []) c.as_slice-in-Ok-true-holds_in.ensures c.in-Ok.ensures.ok in
    record {
      state = those_takes c.args.limit c.args.b.now (slots_of c.args.env.now) c.tuples.walk c.advance_in.new.walk _ c.tuples.found.items c.tuples.invariant.state c.in-Ok-true.field-0 c.in-Ok-true.field-0-test c.in-Ok-true.ensures.found
          _ (inner_slots c.args.env c.as_slice.result c.advance_in.new.walk.values c.as_slice.ensures) c.in-Ok-true-holds_in.field-0 _ c.in-Ok-true-holds_in.field-0-test c.in-Ok-true-holds_in.ensures p;
      values = one_more_value c.tuples.found.items c.push_couple.new.found.items (couple_of c.advance_in.new.walk.values) p c.tuples.invariant.values (couple_value c.advance_in.new.walk.values c.in-Ok-true.ensures.kept.values);
      rests = c.in-Ok-true.ensures.rests;
      kept = c.in-Ok-true.ensures.kept;
    }

pub gather_all-tuples-preserved : goal.gather_all-tuples-preserved
gather_all-tuples-preserved t c = record {
  state = gathers c.args.limit c.args.k.now c.args.c (slots_of c.args.env.now) c.tuples.walk c.advance_in.new.walk c.in-Ok-true.field-0 c.in-Ok-true.field-0-test c.in-Ok-true.ensures.found
      _ (inner_slots c.args.env c.as_slice-in-Ok-true.result c.advance_in.new.walk.values c.as_slice-in-Ok-true.ensures) _ c.as_slice.ensures _ c.tuples.found.items c.tuples.invariant.state c.in-Ok.more _ c.in-Ok.ensures.value c.in-Ok-push_some.ensures.ok;
  values = some_more_value c.tuples.found.items c.push_some.new.found.items c.in-Ok.more c.in-Ok-push_some.ensures.ok c.tuples.invariant.values c.in-Ok.ensures.values;
  rests = c.in-Ok-true.ensures.rests;
  kept = c.in-Ok-true.ensures.kept;
}

pub gather_all-returns-in-Err-gather_at-clause-value : goal.gather_all-returns-in-Err-gather_at-clause-value
gather_all-returns-in-Err-gather_at-clause-value t c = gather_stops c.args.limit c.args.k.now c.args.c (slots_of c.args.env.now) c.tuples.walk c.advance_in.new.walk c.in-Ok-true.field-0 c.in-Ok-true.field-0-test c.in-Ok-true.ensures.found
    _ (inner_slots c.args.env c.as_slice-in-Ok-true.result c.advance_in.new.walk.values c.as_slice-in-Ok-true.ensures) _ c.as_slice.ensures _ c.tuples.found.items c.tuples.invariant.state (λ (v : Vec Value). v.items) c.in-Err-gather_at.s c.in-Err-gather_at.ensures.value

pub gather_all-returns-in-Ok-false-clause-value : goal.gather_all-returns-in-Ok-false-clause-value
gather_all-returns-in-Ok-false-clause-value t c = gathered_all c.args.limit c.args.k.now c.args.c (slots_of c.args.env.now) c.tuples.walk c.advance_in.new.walk _ c.tuples.found.items c.in-Ok-false.field-0 c.tuples.invariant.state c.in-Ok-false.field-0-test c.in-Ok-false.ensures.found

pub gather_all-returns-in-Err-clause-value : goal.gather_all-returns-in-Err-clause-value
gather_all-returns-in-Err-clause-value t c = gather_faults c.args.limit c.args.k.now c.args.c (slots_of c.args.env.now) c.tuples.walk c.advance_in.new.walk (λ (v : Vec Value). v.items) _ c.tuples.found.items c.in-Err.s c.tuples.invariant.state c.in-Err.ensures.found

pub total-tuples-preserved : goal.total-tuples-preserved
total-tuples-preserved t c = record {
  state = total_goes_on c.args.limit c.args.k.now c.args.c (slots_of c.args.env.now) c.tuples.walk c.advance_in.new.walk c.in-Ok-true.field-0 c.in-Ok-true.field-0-test c.in-Ok-true.ensures.found
      _ (inner_slots c.args.env c.as_slice-in-Ok-true.result c.advance_in.new.walk.values c.as_slice-in-Ok-true.ensures) _ c.as_slice.ensures (λ x y. placed c.args.at (partial_result c.args.c x y)) _ c.tuples.partial c.tuples.invariant.state c.in-Ok.more c.in-Ok-next_partial.next c.in-Ok.ensures.value c.in-Ok-next_partial.ensures.value;
  total = c.in-Ok-next_partial.ensures.kept;
  rests = c.in-Ok-true.ensures.rests;
  kept = c.in-Ok-true.ensures.kept;
}

pub total-returns-in-Err-next_partial-clause-value : goal.total-returns-in-Err-next_partial-clause-value
total-returns-in-Err-next_partial-clause-value t c = total_faults c.args.limit c.args.k.now c.args.c (slots_of c.args.env.now) c.tuples.walk c.advance_in.new.walk c.in-Ok-true.field-0 c.in-Ok-true.field-0-test c.in-Ok-true.ensures.found
    _ (inner_slots c.args.env c.as_slice-in-Ok-true.result c.advance_in.new.walk.values c.as_slice-in-Ok-true.ensures) _ c.as_slice.ensures (λ x y. placed c.args.at (partial_result c.args.c x y)) _ c.tuples.partial c.tuples.invariant.state c.in-Ok.more c.in-Err-next_partial.s c.in-Ok.ensures.value c.in-Err-next_partial.ensures.value

pub total-returns-in-Err-gather_at-clause-value : goal.total-returns-in-Err-gather_at-clause-value
total-returns-in-Err-gather_at-clause-value t c = total_stops c.args.limit c.args.k.now c.args.c (slots_of c.args.env.now) c.tuples.walk c.advance_in.new.walk c.in-Ok-true.field-0 c.in-Ok-true.field-0-test c.in-Ok-true.ensures.found
    _ (inner_slots c.args.env c.as_slice-in-Ok-true.result c.advance_in.new.walk.values c.as_slice-in-Ok-true.ensures) _ c.as_slice.ensures (λ x y. placed c.args.at (partial_result c.args.c x y)) _ c.tuples.partial c.tuples.invariant.state c.in-Err-gather_at.s c.in-Err-gather_at.ensures.value

pub total-returns-in-Ok-false-clause-value : goal.total-returns-in-Ok-false-clause-value
total-returns-in-Ok-false-clause-value t c = totalled_all c.args.limit c.args.k.now c.args.c (slots_of c.args.env.now) c.tuples.walk c.advance_in.new.walk (λ x y. placed c.args.at (partial_result c.args.c x y)) _ c.tuples.partial c.in-Ok-false.field-0 c.tuples.invariant.state c.in-Ok-false.field-0-test c.in-Ok-false.ensures.found

pub total-returns-in-Err-clause-value : goal.total-returns-in-Err-clause-value
total-returns-in-Err-clause-value t c = total_ends_faulty c.args.limit c.args.k.now c.args.c (slots_of c.args.env.now) c.tuples.walk c.advance_in.new.walk (λ x y. placed c.args.at (partial_result c.args.c x y)) _ c.tuples.partial c.in-Err.s c.tuples.invariant.state c.in-Err.ensures.found

-- ---- walks

pub advance_in-returns-clause-found : goal.advance_in-returns-clause-found
advance_in-returns-clause-found t c =
    let vs = (out-Binder c.args.b.now).variables in
    let rs = ranges_in (map (variable_of c.args.limit) vs) in
    let env = slots_of c.args.env.now in
    let h = subst (λ (l : List Variable). Finds (to_come (ranges_in (map (variable_of c.args.limit) l)) env c.args.walk.now) c.seek-found.new.walk.values (to_come (ranges_in (map (variable_of c.args.limit) l)) env c.seek-found.new.walk) c.seek-found.result)
    c.as_slice.ensures c.seek-found.ensures.found in
    subst (λ (ms : List VariableMeaning). Finds (places_ahead c.args.limit ms env c.args.walk.now) c.settle.new.walk.values (places_ahead c.args.limit ms env c.settle.new.walk) c.settle.result) (sym (binder_variables c.args.limit c.args.b.now))
    (settled c.first_place.result (first_place (map (variable_of c.args.limit) vs)) c.seek-found.new.walk.number c.args.walk.now.number c.args.limit rs env c.settle.new.walk (to_come rs env c.args.walk.now) c.settle.result
    (c.first_place.ensures c.args.limit ∙ ap (λ (l : List Variable). first_place (map (variable_of c.args.limit) l)) c.as_slice-2.ensures) c.seek-found.ensures.number
    (c.settle.ensures.found rs env (to_come rs env c.args.walk.now) h))

pub advance_in-returns-clause-rests : goal.advance_in-returns-clause-rests
advance_in-returns-clause-rests t c = c.settle.ensures.rests (length (out-Binder c.args.b.now).variables)
    (subst (λ (l : List Variable). OnPlace c.seek-found.result (IsResting (length l) c.seek-found.new.walk)) c.as_slice.ensures c.seek-found.ensures.rests)

pub advance_in-returns-clause-kept : goal.advance_in-returns-clause-kept
advance_in-returns-clause-kept t c = c.settle.ensures.kept c.seek-found.ensures.kept

pub seek-returns-in-Ok-clause-found : goal.seek-returns-in-Ok-clause-found
seek-returns-in-Ok-clause-found t c =
    let rs = ranges_in (map (variable_of c.args.limit) c.args.variables.now) in
    let env = slots_of c.args.env.now in
    finds_from (to_come rs env c.args.walk.now) (pending rs env c.set_out.new.walk c.in-Ok.stand) c.seek_from.new.walk.values (to_come rs env c.seek_from.new.walk) c.seek_from.result
    (c.in-Ok.ensures.found rs env (length_ranges c.args.limit c.args.variables.now)) c.seek_from.ensures.found

pub seek_from-returns-in-Err-clause-found : goal.seek_from-returns-in-Err-clause-found
seek_from-returns-in-Err-clause-found t c =
    let rs = ranges_in (map (variable_of c.args.limit) c.args.variables.now) in
    let env = slots_of c.args.env.now in
    stops_from _ rs env c.asking.walk c.ask.new.walk c.in-Err.s (c.asking.invariant.state ∙ ap (pending rs env c.asking.walk) c.in-Asks.is) c.in-Err.ensures.found

pub seek_from-returns-in-Err-clause-rests : goal.seek_from-returns-in-Err-clause-rests
seek_from-returns-in-Err-clause-rests t c = stop_rests (length c.args.variables.now) c.ask.new.walk c.in-Err.s c.in-Err.ensures.stands

pub seek_from-returns-in-Err-clause-kept : goal.seek_from-returns-in-Err-clause-kept
seek_from-returns-in-Err-clause-kept t c = stop_kept Stand Bool (IsKeptWalk c.ask.new.walk) c.in-Err.s c.in-Err.ensures.kept

pub seek_from-asking-preserved : goal.seek_from-asking-preserved
seek_from-asking-preserved t c =
    let rs = ranges_in (map (variable_of c.args.limit) c.args.variables.now) in
    let env = slots_of c.args.env.now in
    record {
      state = c.asking.invariant.state ∙ ap (pending rs env c.asking.walk) c.in-Asks.is ∙ c.in-Ok.ensures.found;
      stands = c.in-Ok.ensures.stands;
      kept = c.in-Ok.ensures.kept;
      number = c.ask.ensures.number ∙ c.asking.invariant.number;
    }

pub ask-returns-in-Ok-enter-clause-found : goal.ask-returns-in-Ok-enter-clause-found
ask-returns-in-Ok-enter-clause-found t c =
    let env = slots_of c.args.env.now in
    c.in-Ok-enter.ensures.found (ranges_in (map (variable_of c.args.limit) c.args.variables.now)) env (length_ranges c.args.limit c.args.variables.now)
    (asks_for c.args.limit c.args.variables.now env c.args.walk.now c.index-variables-depth.result c.len-depth.result _ c.range_of-range.result c.len-depth.ensures c.requires.asks.below c.index-variables-depth.is
    (inner_slots c.args.env c.as_slice.result c.args.walk.now.values c.as_slice.ensures) c.range_of-range.ensures.value c.in-Ok.range c.in-Ok.is)

pub ask-returns-in-Ok-enter-clause-work : goal.ask-returns-in-Ok-enter-clause-work
ask-returns-in-Ok-enter-clause-work t c =
    let env = slots_of c.args.env.now in
    c.in-Ok-enter.ensures.work (ranges_in (map (variable_of c.args.limit) c.args.variables.now)) env (length_ranges c.args.limit c.args.variables.now)
    (asks_for c.args.limit c.args.variables.now env c.args.walk.now c.index-variables-depth.result c.len-depth.result _ c.range_of-range.result c.len-depth.ensures c.requires.asks.below c.index-variables-depth.is
    (inner_slots c.args.env c.as_slice.result c.args.walk.now.values c.as_slice.ensures) c.range_of-range.ensures.value c.in-Ok.range c.in-Ok.is)

pub ask-returns-in-Err-clause-found : goal.ask-returns-in-Err-clause-found
ask-returns-in-Err-clause-found t c =
    let env = slots_of c.args.env.now in
    asks_faulty c.args.limit c.args.variables.now env c.args.walk.now c.index-variables-depth.result c.len-depth.result _ c.range_of-range.result c.len-depth.ensures c.requires.asks.below c.index-variables-depth.is
    (inner_slots c.args.env c.as_slice.result c.args.walk.now.values c.as_slice.ensures) c.range_of-range.ensures.value c.in-Err.s c.in-Err.is

pub ask-returns-in-Err-clause-stands : goal.ask-returns-in-Err-clause-stands
ask-returns-in-Err-clause-stands t c = asks_stands (length c.args.variables.now) c.args.walk.now c.in-Err.s c.requires.asks

pub ask-returns-in-Err-clause-kept : goal.ask-returns-in-Err-clause-kept
ask-returns-in-Err-clause-kept t c = stopped Stand (IsKeptWalk c.args.walk.now) c.in-Err.s c.requires.kept

-- ---- tests of members

pub has_all-returns-then-branch : goal.has_all-returns-then-branch
has_all-returns-then-branch t c =
    both_true _ _ c.in_ok-all_members.field-0 _
    (subst (λ (l : List Value). each (λ x. member_of c.args.limit c.args.s.now (part c.args.f x) (slots_of c.args.env.now)) l ≡ Ok c.in_ok-all_members.field-0) c.members.ensures c.in_ok-all_members.ensures)
    c.if-branch.true c.has_ends.ensures

pub is_relation-returns-then-branch : goal.is_relation-returns-then-branch
is_relation-returns-then-branch t c =
    both_true _ _ c.in_ok-all_couples.field-0 _
    (subst (λ (l : List Value). each (λ x. is_couple (sides_of c.args.limit c.args.sides.now) x (slots_of c.args.env.now)) l ≡ Ok c.in_ok-all_couples.field-0) c.members.ensures c.in_ok-all_couples.ensures)
    c.if-branch.true c.is_arrow.ensures

pub passes-returns-in-NotSubset : goal.passes-returns-in-NotSubset
passes-returns-in-NotSubset t c =
    subst (λ (o : Membership). Means (tested o (meaning_of c.args.limit c.args.s.now) c.args.v.now (slots_of c.args.env.now)) c.isnt_part.result) (sym c.in-NotSubset.is)
    (subst (λ (l : List Value). Means (negated (each (λ x. member_of c.args.limit c.args.s.now x (slots_of c.args.env.now)) l)) c.isnt_part.result) c.members-in-NotSubset.ensures c.isnt_part.ensures)

pub range_of-returns-in-Err-eval_in-3-clause-value : goal.range_of-returns-in-Err-eval_in-3-clause-value
range_of-returns-in-Err-eval_in-3-clause-value t c =
    cut_stops left_in c.args.limit c.args.v.now c.in-Cut.e (slots_of c.args.env.now) c.moved.result c.in-Cut.is (c.moved.ensures (value_of c.args.limit c.in-Cut.e (slots_of c.args.env.now))
    (subst (λ (e : ExprTree). Means (value_of c.args.limit e (slots_of c.args.env.now)) (Err c.in-Err-eval_in-3.s)) c.get-in-Cut.ensures c.in-Err-eval_in-3.ensures.value))
