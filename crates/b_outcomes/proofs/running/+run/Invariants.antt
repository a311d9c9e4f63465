use Rattle.std.proofs.Common.{◌≡◌, ◌≤◌, ◌-◌, ◌++◌, Bool, false, length, map, drop}
use Rattle.std.specs.List.{AllByRecursion}
use Rattle.b_meaning.specs.Meaning.{tuple_limit, binder_of}
use Rattle.b_meaning.specs.Tuples.{places_ahead}
use Rattle.b_places.specs.Places.{instances}
use Rattle.b_places.specs.Scopes.{slots_of}
use Rattle.b_places.specs.Walks.{IsResting, IsKeptWalk}
use Rattle.b_tree.specs.declared.Binder.{out-Binder}
use Rattle.b_tree.specs.declared.substitutions.Selection.{out-Selection}
use Rattle.b_outcomes.specs.Frames.{IsKeptFrame, middle}
use Rattle.b_outcomes.specs.Gathered.{gathers, chooses}
use Rattle.b_outcomes.specs.Outcomes.{effect_of, branch_of, case_of, selection_of, step_of, union_of, first_of, all_of, held, labelled, any_of, at_tuple, after_all}
use Rattle.b_outcomes.proofs.running.+run.Given as goal

abbrev pub invariant-first_branch-loop-b : goal.invariant-first_branch-loop-b
invariant-first_branch-loop-b l = chooses false l.fn.out (first_of (map (λ b. held b l.frame (slots_of l.env)) (map (branch_of tuple_limit l.first) l.branches))) ≡ chooses false l.out (first_of (map (λ b. held b l.frame (slots_of l.env)) (map (branch_of tuple_limit l.first) (drop l.b-index l.branches))))

abbrev pub invariant-all_branches-loop-b : goal.invariant-all_branches-loop-b
invariant-all_branches-loop-b l = chooses false l.fn.out (all_of (map (λ b. held b l.frame (slots_of l.env)) (map (branch_of tuple_limit l.first) l.branches))) ≡ chooses l.found l.out (all_of (map (λ b. held b l.frame (slots_of l.env)) (map (branch_of tuple_limit l.first) (drop l.b-index l.branches))))

abbrev pub invariant-run_all-loop-s : goal.invariant-run_all-loop-s
invariant-run_all-loop-s l = gathers l.fn.out (union_of (map (λ e. e l.frame (slots_of l.env)) (map (effect_of tuple_limit l.first) l.ss))) ≡ gathers l.out (union_of (map (λ e. e l.frame (slots_of l.env)) (map (effect_of tuple_limit l.first) (drop l.s-index l.ss))))

abbrev pub invariant-first_case-loop-c : goal.invariant-first_case-loop-c
invariant-first_case-loop-c l = chooses false l.fn.out (first_of (map (λ c. labelled l.v c l.frame (slots_of l.env)) (map (case_of tuple_limit l.first) l.branches))) ≡ chooses false l.out (first_of (map (λ c. labelled l.v c l.frame (slots_of l.env)) (map (case_of tuple_limit l.first) (drop l.c-index l.branches))))

abbrev pub invariant-any_tuples-tuples : goal.invariant-any_tuples-tuples
invariant-any_tuples-tuples l =
    let m = selection_of tuple_limit l.first l.s in
    record {
      state : gathers l.fn.out (any_of tuple_limit l.first m l.frame (slots_of l.env)) ≡ gathers l.out (union_of (instances (at_tuple m.binder.test (λ t. m.body l.frame (slots_of l.env ++ t)) (slots_of l.env)) (places_ahead tuple_limit m.binder.variables (slots_of l.env) l.walk)));
      rests : IsResting (length (out-Binder (out-Selection l.s).binder).variables) l.walk;
      kept : IsKeptWalk l.walk;
    }

abbrev pub decreases-any_tuples-tuples : goal.decreases-any_tuples-tuples
decreases-any_tuples-tuples l = length (places_ahead tuple_limit (selection_of tuple_limit l.first l.s).binder.variables (slots_of l.env) l.walk)

abbrev pub invariant-follow-steps : goal.invariant-follow-steps
invariant-follow-steps l = record {
  state : after_all tuple_limit l.first (map (step_of tuple_limit l.first) l.steps) l.fn.xs l.frame (slots_of l.env) ≡ after_all tuple_limit l.first (map (step_of tuple_limit l.first) (drop l.i l.steps)) l.left l.frame (slots_of l.env);
  within : l.i ≤ length l.steps;
  kept : AllByRecursion IsKeptFrame l.left;
  same : l.out ≡ l.fn.out;
}

abbrev pub decreases-follow-steps : goal.decreases-follow-steps
decreases-follow-steps l = length l.steps - l.i

abbrev pub invariant-from_each-loop-x : goal.invariant-from_each-loop-x
invariant-from_each-loop-x l = gathers l.fn.out (union_of (map (λ x. (step_of tuple_limit l.first l.s).body x (middle l.first x l.slots)) l.xs)) ≡ gathers l.out (union_of (map (λ x. (step_of tuple_limit l.first l.s).body x (middle l.first x l.slots)) (drop l.x-index l.xs)))
