use Rattle.std.proofs.Common.{◌≡◌, ◌++◌, map, drop}
use Rattle.b_definitions.specs.Uses.{joined, used_in_subst, used_in_branch, used_in_case, used_in_step}
use Rattle.b_definitions.proofs.substitutions.+collect_subst.Given as goal

-- those so far, and then the rest
abbrev pub invariant-collect_substs-loop-subst : goal.invariant-collect_substs-loop-subst
invariant-collect_substs-loop-subst l =
    l.all ++ joined (map (used_in_subst l.body.table.now l.body.params.now) (drop l.subst-index l.substs)) ≡ l.fn.found ++ joined (map (used_in_subst l.body.table.now l.body.params.now) l.substs)

abbrev pub invariant-collect_branches-loop-branch : goal.invariant-collect_branches-loop-branch
invariant-collect_branches-loop-branch l =
    l.all ++ joined (map (used_in_branch l.body.table.now l.body.params.now) (drop l.branch-index l.branches)) ≡ l.fn.found ++ joined (map (used_in_branch l.body.table.now l.body.params.now) l.branches)

abbrev pub invariant-collect_cases-loop-branch : goal.invariant-collect_cases-loop-branch
invariant-collect_cases-loop-branch l =
    l.all ++ joined (map (used_in_case l.body.table.now l.body.params.now) (drop l.branch-index l.branches)) ≡ l.fn.found ++ joined (map (used_in_case l.body.table.now l.body.params.now) l.branches)

abbrev pub invariant-collect_steps-loop-step : goal.invariant-collect_steps-loop-step
invariant-collect_steps-loop-step l =
    l.all ++ joined (map (used_in_step l.body.table.now l.body.params.now) (drop l.step-index l.steps)) ≡ l.fn.found ++ joined (map (used_in_step l.body.table.now l.body.params.now) l.steps)
