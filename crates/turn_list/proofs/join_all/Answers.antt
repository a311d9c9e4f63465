use Rattle.std.proofs.Common.{arith, refl, sym, ap, ◌∙◌, ◌≡◌, ◌≤◌, ◌<◌, ◌++◌, ◌∷◌, [], length, subst}
use Rattle.std.proofs.lemmas.List.{take_all, length-map}
use Rattle.turn_lock.specs.Turns.{known}
use Rattle.turn_list.specs.Lists.{ArePassesOf, all_known, joined_all}
use Rattle.turn_list.proofs.AtPlaces.{same_length, pass_at, pass_set, fewer, last_pass, joined_more, all_joined}
use Rattle.turn_list.proofs.Meetings.{none_met, passes_met, all_met}
use Rattle.turn_list.proofs.join_all.Goals as goal

pub loop-other-init : goal.loop-other-init
loop-other-init g c = let long = same_length {g = g.V.Kept} c.args.turns.now c.args.others.items c.requires.others in record {
  into = c.requires.into;
  within = omega (arith, long);
  others = subst (λ ts. ArePassesOf {g = g.V.Kept} ts c.args.others.items) (sym (take_all (length c.args.others.items) c.args.turns.now (omega (arith, long)))) c.requires.others;
  joined = refl;
  met = none_met (all_known c.args.into.now) (all_known c.args.others.items);
}

pub bounds-into-i : goal.bounds-into-i
bounds-into-i g c = omega (
  arith,
  c.len-i.ensures,
  c.pop.new.self.ok.0,
  same_length {g = g.V.Kept} c.args.turns.now c.loop-other.into c.loop-other.invariant.into,
  fewer {g = g.V.Kept} c.args.turns.now c.loop-other.others.items c.pop.new.self.items c.in-Some.other c.in-Some.ensures.items c.loop-other.invariant.within,
)

pub join-requires-clause-turn : goal.join-requires-clause-turn
join-requires-clause-turn g c = pass_at {g = g.V.Kept} c.args.turns.now c.loop-other.into c.len-i.result c.index-turns-i.result c.index-into-i.result c.loop-other.invariant.into
    (omega (arith, c.len-i.ensures, c.pop.new.self.ok.0, fewer {g = g.V.Kept} c.args.turns.now c.loop-other.others.items c.pop.new.self.items c.in-Some.other c.in-Some.ensures.items c.loop-other.invariant.within))
    c.index-turns-i.is

pub join-requires-clause-other : goal.join-requires-clause-other
join-requires-clause-other g c = (last_pass {g = g.V.Kept} c.args.turns.now c.loop-other.others.items c.pop.new.self.items c.in-Some.other c.len-i.result c.index-turns-i.result c.in-Some.ensures.items
    c.loop-other.invariant.within c.loop-other.invariant.others (c.len-i.ensures ∙ c.pop.new.self.ok.0) c.index-turns-i.is).1

pub loop-other-preserved : goal.loop-other-preserved
loop-other-preserved g c =
    let is : c.loop-other.others.items ≡ c.pop.new.self.items ++ c.in-Some.other ∷ [] = c.in-Some.ensures.items in
    let at : c.len-i.result ≡ length c.pop.new.self.items = c.len-i.ensures ∙ c.pop.new.self.ok.0 in
    let few : length c.pop.new.self.items < length c.args.turns.now = fewer {g = g.V.Kept} c.args.turns.now c.loop-other.others.items c.pop.new.self.items c.in-Some.other is c.loop-other.invariant.within in
    let long : length c.args.turns.now ≡ length c.loop-other.into = same_length {g = g.V.Kept} c.args.turns.now c.loop-other.into c.loop-other.invariant.into in record {
      into = pass_set {g = g.V.Kept} c.args.turns.now c.loop-other.into c.len-i.result c.index-turns-i.result c.join.new.into c.loop-other.invariant.into (omega arith) c.index-turns-i.is c.join.ensures.joined.0;
      within = omega arith;
      others = (last_pass {g = g.V.Kept} c.args.turns.now c.loop-other.others.items c.pop.new.self.items c.in-Some.other c.len-i.result c.index-turns-i.result is
          c.loop-other.invariant.within c.loop-other.invariant.others at c.index-turns-i.is).0;
      joined = joined_more {g = g.V.Kept} c.loop-other.into c.loop-other.others.items c.pop.new.self.items c.in-Some.other c.join.new.into c.len-i.result c.index-into-i.result is at (omega arith) c.join.ensures.joined.1
          ∙ c.loop-other.invariant.joined;
      met = passes_met {g = g.V.Kept} c.args.into.now c.args.others.items c.loop-other.into c.loop-other.others.items c.pop.new.self.items c.in-Some.other c.join.new.into c.index-into-i.result c.len-i.result is at (omega arith)
          c.join.ensures.joined.1 c.join.ensures.one_history c.join.ensures.within_all c.loop-other.invariant.met;
    }

pub returns-clause-joined : goal.returns-clause-joined
returns-clause-joined g c = all_joined {g = g.V.Kept} c.loop-other.into c.loop-other.others.items _ (omega (arith, c.in_default.ensures.cases.0, c.loop-other.others.ok.0)) c.loop-other.invariant.joined

pub returns-clause-of_one_turn : goal.returns-clause-of_one_turn
returns-clause-of_one_turn g c = all_met (all_known c.args.into.now) (all_known c.args.others.items) (all_known c.loop-other.into) (all_known c.loop-other.others.items)
    (omega (arith, c.in_default.ensures.cases.0, c.loop-other.others.ok.0, length-map c.loop-other.others.items (known {g = g.V.Kept}))) c.loop-other.invariant.met
