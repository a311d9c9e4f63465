use Rattle.std.proofs.Common.{◌≡◌, map, drop}
use Rattle.b_substitutions.specs.Summaries as spec
use Rattle.b_substitutions.specs.Standing.{subst_in, branch_in, case_in, step_in}
use Rattle.b_substitutions.proofs.walk.+add.Given as goal

-- what is found, and then the rest
abbrev pub invariant-add_all-loop-body : goal.invariant-add_all-loop-body
invariant-add_all-loop-body l = spec.with_all (map (subst_in l.text) (drop l.body-index l.bodies)) l.found ≡ spec.with_all (map (subst_in l.text) l.bodies) l.fn.parts

abbrev pub invariant-add_branches-loop-branch : goal.invariant-add_branches-loop-branch
invariant-add_branches-loop-branch l = spec.with_all (map (branch_in l.text) (drop l.branch-index l.branches)) l.found ≡ spec.with_all (map (branch_in l.text) l.branches) l.fn.parts

abbrev pub invariant-add_cases-loop-branch : goal.invariant-add_cases-loop-branch
invariant-add_cases-loop-branch l = spec.with_all (map (case_in l.text) (drop l.branch-index l.branches)) l.found ≡ spec.with_all (map (case_in l.text) l.branches) l.fn.parts

abbrev pub invariant-add_steps-loop-step : goal.invariant-add_steps-loop-step
invariant-add_steps-loop-step l = spec.with_all (map (step_in l.text) (drop l.step-index l.steps)) l.found ≡ spec.with_all (map (step_in l.text) l.steps) l.fn.parts
