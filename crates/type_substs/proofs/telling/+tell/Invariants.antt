use Rattle.std.proofs.Common.{◌≡◌, map, drop}
use Rattle.type_demands.specs.Scopes.{scope_of}
use Rattle.type_substs.specs.Told.{told}
use Rattle.type_substs.specs.Substitutions.{with_all, with_cases, subst_told, branch_told, case_told, step_told}
use Rattle.type_substs.proofs.telling.+tell.Given as goal

-- what is told, and then the rest
abbrev pub invariant-tell_each-loop-body : goal.invariant-tell_each-loop-body
invariant-tell_each-loop-body l = record {
  tells : with_all (map subst_told (drop l.body-index l.bodies)) (scope_of l.fn.frames.items) (told l.out.items l.next) ≡ with_all (map subst_told l.bodies) (scope_of l.fn.frames.items) (told l.fn.out.items l.fn.next);
  demands : (with_all (map subst_told (drop l.body-index l.bodies)) (scope_of l.fn.frames.items) (told l.out.items l.next)).demands ≡ (with_all (map subst_told l.bodies) (scope_of l.fn.frames.items) (told l.fn.out.items l.fn.next)).demands;
  parts : (with_all (map subst_told (drop l.body-index l.bodies)) (scope_of l.fn.frames.items) (told l.out.items l.next)).next ≡ (with_all (map subst_told l.bodies) (scope_of l.fn.frames.items) (told l.fn.out.items l.fn.next)).next;
  frames : l.frames.items ≡ l.fn.frames.items;
}

abbrev pub invariant-tell_branches-loop-branch : goal.invariant-tell_branches-loop-branch
invariant-tell_branches-loop-branch l = record {
  tells : with_all (map branch_told (drop l.branch-index l.branches)) (scope_of l.fn.frames.items) (told l.out.items l.next) ≡ with_all (map branch_told l.branches) (scope_of l.fn.frames.items) (told l.fn.out.items l.fn.next);
  demands : (with_all (map branch_told (drop l.branch-index l.branches)) (scope_of l.fn.frames.items) (told l.out.items l.next)).demands ≡ (with_all (map branch_told l.branches) (scope_of l.fn.frames.items) (told l.fn.out.items l.fn.next)).demands;
  parts : (with_all (map branch_told (drop l.branch-index l.branches)) (scope_of l.fn.frames.items) (told l.out.items l.next)).next ≡ (with_all (map branch_told l.branches) (scope_of l.fn.frames.items) (told l.fn.out.items l.fn.next)).next;
  frames : l.frames.items ≡ l.fn.frames.items;
}

abbrev pub invariant-tell_cases-loop-branch : goal.invariant-tell_cases-loop-branch
invariant-tell_cases-loop-branch l = record {
  tells : with_cases l.fn.part (map case_told (drop l.branch-index l.branches)) (scope_of l.fn.frames.items) (told l.out.items l.next) ≡ with_cases l.fn.part (map case_told l.branches) (scope_of l.fn.frames.items) (told l.fn.out.items l.fn.next);
  demands : (with_cases l.fn.part (map case_told (drop l.branch-index l.branches)) (scope_of l.fn.frames.items) (told l.out.items l.next)).demands ≡ (with_cases l.fn.part (map case_told l.branches) (scope_of l.fn.frames.items) (told l.fn.out.items l.fn.next)).demands;
  parts : (with_cases l.fn.part (map case_told (drop l.branch-index l.branches)) (scope_of l.fn.frames.items) (told l.out.items l.next)).next ≡ (with_cases l.fn.part (map case_told l.branches) (scope_of l.fn.frames.items) (told l.fn.out.items l.fn.next)).next;
  frames : l.frames.items ≡ l.fn.frames.items;
}

abbrev pub invariant-tell_steps-loop-step : goal.invariant-tell_steps-loop-step
invariant-tell_steps-loop-step l = record {
  tells : with_all (map step_told (drop l.step-index l.steps)) (scope_of l.fn.frames.items) (told l.out.items l.next) ≡ with_all (map step_told l.steps) (scope_of l.fn.frames.items) (told l.fn.out.items l.fn.next);
  demands : (with_all (map step_told (drop l.step-index l.steps)) (scope_of l.fn.frames.items) (told l.out.items l.next)).demands ≡ (with_all (map step_told l.steps) (scope_of l.fn.frames.items) (told l.fn.out.items l.fn.next)).demands;
  parts : (with_all (map step_told (drop l.step-index l.steps)) (scope_of l.fn.frames.items) (told l.out.items l.next)).next ≡ (with_all (map step_told l.steps) (scope_of l.fn.frames.items) (told l.fn.out.items l.fn.next)).next;
  frames : l.frames.items ≡ l.fn.frames.items;
}
