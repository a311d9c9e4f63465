use Rattle.std.proofs.Common.{◌≡◌, map, drop}
use Rattle.b_use_forms.specs.Forms.{all_right}
use Rattle.b_use_forms.specs.Standing.{subst_in, branch_in, case_in, step_in}
use Rattle.b_use_forms.proofs.substitutions.+fits_subst.Given as goal

-- what is left decides
abbrev pub invariant-fit_all-loop-body : goal.invariant-fit_all-loop-body
invariant-fit_all-loop-body l = all_right (map (subst_in l.text) (drop l.body-index l.bodies)) ≡ all_right (map (subst_in l.text) l.bodies)

abbrev pub invariant-fit_branches-loop-branch : goal.invariant-fit_branches-loop-branch
invariant-fit_branches-loop-branch l = all_right (map (branch_in l.text) (drop l.branch-index l.branches)) ≡ all_right (map (branch_in l.text) l.branches)

abbrev pub invariant-fit_cases-loop-branch : goal.invariant-fit_cases-loop-branch
invariant-fit_cases-loop-branch l = all_right (map (case_in l.text) (drop l.branch-index l.branches)) ≡ all_right (map (case_in l.text) l.branches)

abbrev pub invariant-fit_steps-loop-step : goal.invariant-fit_steps-loop-step
invariant-fit_steps-loop-step l = all_right (map (step_in l.text) (drop l.step-index l.steps)) ≡ all_right (map (step_in l.text) l.steps)
