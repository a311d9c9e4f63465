use Rattle.std.proofs.Common.{◌≡◌, ◌++◌, true, false, Ok, length, map, drop, take}
use Rattle.std.specs.List.{AllByRecursion}
use Rattle.b_meaning.specs.Meaning.{values_of, member_of, each, each_base, chained, joined, power_of, link_of, clause_of, sides_of, binder_of, collection_of, variable_of, universal_of, is_couple, at_tuple, passing, implied, gathering, binder_places, ranges_in}
use Rattle.b_meaning.specs.Tuples.{places_ahead}
use Rattle.b_places.specs.PlaceLaws.{IsCollecting}
use Rattle.b_places.specs.Places.{decided, instances, those, totalled}
use Rattle.b_places.specs.Scopes.{slots_of}
use Rattle.b_places.specs.Walks.{pending, pending_work, IsResting, IsKeptWalk, StandsAt}
use Rattle.b_rows.specs.Answers.{bind, placed}
use Rattle.b_rows.specs.Rows.{partial_result, first_result}
use Rattle.b_rows.specs.Tests.{part}
use Rattle.b_tree.specs.declared.Binder.{out-Binder}
use Rattle.b_tree.specs.declared.Collection.{out-Collection}
use Rattle.b_tree.specs.declared.Universal.{out-Universal}
use Rattle.b_values.specs.Values.{IsKept, IsValue}
use Rattle.b_meaning.proofs.evaluation.+eval.Given as goal

abbrev pub invariant-eval_all-loop-e : goal.invariant-eval_all-loop-e
invariant-eval_all-loop-e l = record {
  state : values_of l.limit l.es (slots_of l.env) ≡ bind (values_of l.limit (drop l.e-index l.es) (slots_of l.env)) (λ vs. Ok (l.values.items ++ vs));
  kept : AllByRecursion IsValue l.values.items;
}

abbrev pub invariant-eval_bases-loop-power : goal.invariant-eval_bases-loop-power
invariant-eval_bases-loop-power l = record {
  state : each_base (map (power_of l.limit) l.powers) (slots_of l.env) ≡ bind (each_base (map (power_of l.limit) (drop l.power-index l.powers)) (slots_of l.env)) (λ vs. Ok (l.values.items ++ vs));
  count : length l.values.items ≡ l.power-index;
}

abbrev pub invariant-follow_all-loop-link : goal.invariant-follow_all-loop-link
invariant-follow_all-loop-link l = record {
  state : chained (map (link_of l.limit) l.links) (slots_of l.env) l.fn.x ≡ chained (map (link_of l.limit) (drop l.link-index l.links)) (slots_of l.env) l.value;
  kept : IsKept l.value;
}

abbrev pub invariant-join_all-loop-clause : goal.invariant-join_all-loop-clause
invariant-join_all-loop-clause l = joined (map (clause_of l.limit) l.clauses) (slots_of l.env) l.fn.first ≡ joined (map (clause_of l.limit) (drop l.clause-index l.clauses)) (slots_of l.env) l.truth

abbrev pub invariant-all_members-loop-v : goal.invariant-all_members-loop-v
invariant-all_members-loop-v l = each (λ v. member_of l.limit l.e (part l.f v) (slots_of l.env)) l.vs ≡ each (λ v. member_of l.limit l.e (part l.f v) (slots_of l.env)) (drop l.v-index l.vs)

abbrev pub invariant-all_couples-loop-v : goal.invariant-all_couples-loop-v
invariant-all_couples-loop-v l = each (λ v. is_couple (sides_of l.limit l.sides) v (slots_of l.env)) l.vs ≡ each (λ v. is_couple (sides_of l.limit l.sides) v (slots_of l.env)) (drop l.v-index l.vs)

abbrev pub invariant-exists-tuples : goal.invariant-exists-tuples
invariant-exists-tuples l =
    let m = binder_of l.limit l.b in
    record {
      state : decided false (instances (at_tuple m.test (slots_of l.env)) (binder_places l.limit m.variables (slots_of l.env))) ≡ decided false (instances (at_tuple m.test (slots_of l.env)) (places_ahead l.limit m.variables (slots_of l.env) l.walk));
      rests : IsResting (length (out-Binder l.b).variables) l.walk;
      kept : IsKeptWalk l.walk;
    }

abbrev pub decreases-exists-tuples : goal.decreases-exists-tuples
decreases-exists-tuples l = length (places_ahead l.limit (binder_of l.limit l.b).variables (slots_of l.env) l.walk)

abbrev pub invariant-for_all-tuples : goal.invariant-for_all-tuples
invariant-for_all-tuples l =
    let m = universal_of l.limit l.u in
    record {
      state : decided true (instances (at_tuple (implied m) (slots_of l.env)) (binder_places l.limit m.binder.variables (slots_of l.env))) ≡ decided true (instances (at_tuple (implied m) (slots_of l.env)) (places_ahead l.limit m.binder.variables (slots_of l.env) l.walk));
      rests : IsResting (length (out-Binder (out-Universal l.u).binder).variables) l.walk;
      kept : IsKeptWalk l.walk;
    }

abbrev pub decreases-for_all-tuples : goal.decreases-for_all-tuples
decreases-for_all-tuples l = length (places_ahead l.limit (universal_of l.limit l.u).binder.variables (slots_of l.env) l.walk)

abbrev pub invariant-tuples_passing-tuples : goal.invariant-tuples_passing-tuples
invariant-tuples_passing-tuples l =
    let m = binder_of l.limit l.b in
    record {
      state : IsCollecting (those (instances (passing m.test (slots_of l.env)) (binder_places l.limit m.variables (slots_of l.env)))) l.found.items (instances (passing m.test (slots_of l.env)) (places_ahead l.limit m.variables (slots_of l.env) l.walk));
      values : AllByRecursion IsValue l.found.items;
      rests : IsResting (length (out-Binder l.b).variables) l.walk;
      kept : IsKeptWalk l.walk;
    }

abbrev pub decreases-tuples_passing-tuples : goal.decreases-tuples_passing-tuples
decreases-tuples_passing-tuples l = length (places_ahead l.limit (binder_of l.limit l.b).variables (slots_of l.env) l.walk)

abbrev pub invariant-gather_all-tuples : goal.invariant-gather_all-tuples
invariant-gather_all-tuples l =
    let m = collection_of l.limit l.k in
    record {
      state : IsCollecting (those (instances (gathering l.c m (slots_of l.env)) (binder_places l.limit m.binder.variables (slots_of l.env)))) l.found.items (instances (gathering l.c m (slots_of l.env)) (places_ahead l.limit m.binder.variables (slots_of l.env) l.walk));
      values : AllByRecursion IsValue l.found.items;
      rests : IsResting (length (out-Binder (out-Collection l.k).binder).variables) l.walk;
      kept : IsKeptWalk l.walk;
    }

abbrev pub decreases-gather_all-tuples : goal.decreases-gather_all-tuples
decreases-gather_all-tuples l = length (places_ahead l.limit (collection_of l.limit l.k).binder.variables (slots_of l.env) l.walk)

abbrev pub invariant-total-tuples : goal.invariant-total-tuples
invariant-total-tuples l =
    let m = collection_of l.limit l.k in
    record {
      state : totalled (λ x y. placed l.at (partial_result l.c x y)) (first_result l.c) (instances (gathering l.c m (slots_of l.env)) (binder_places l.limit m.binder.variables (slots_of l.env))) ≡ totalled (λ x y. placed l.at (partial_result l.c x y)) l.partial (instances (gathering l.c m (slots_of l.env)) (places_ahead l.limit m.binder.variables (slots_of l.env) l.walk));
      total : IsKept l.partial;
      rests : IsResting (length (out-Binder (out-Collection l.k).binder).variables) l.walk;
      kept : IsKeptWalk l.walk;
    }

abbrev pub decreases-total-tuples : goal.decreases-total-tuples
decreases-total-tuples l = length (places_ahead l.limit (collection_of l.limit l.k).binder.variables (slots_of l.env) l.walk)

abbrev pub invariant-seek_from-asking : goal.invariant-seek_from-asking
invariant-seek_from-asking l =
    let rs = ranges_in (map (variable_of l.limit) l.variables) in
    record {
      state : pending rs (slots_of l.env) l.fn.walk l.fn.first ≡ pending rs (slots_of l.env) l.walk l.stand;
      stands : StandsAt (length l.variables) l.walk l.stand;
      kept : IsKeptWalk l.walk;
      number : l.walk.number ≡ l.fn.walk.number;
    }

abbrev pub decreases-seek_from-asking : goal.decreases-seek_from-asking
decreases-seek_from-asking l = pending_work (ranges_in (map (variable_of l.limit) l.variables)) (slots_of l.env) l.walk l.stand
