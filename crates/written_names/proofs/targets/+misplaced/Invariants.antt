use Rattle.std.proofs.Common.{◌≡◌, map, drop}
use Rattle.written_names.specs.Names.{in_order, is_among}
use Rattle.written_names.specs.Targets.{misplaced_in, misplaced_in_branch, misplaced_in_case, misplaced_in_step}
use Rattle.written_names.proofs.targets.+misplaced.Given as goal

-- what the rest tells, the whole tells
abbrev pub invariant-misplaced_in_each-loop-body : goal.invariant-misplaced_in_each-loop-body
invariant-misplaced_in_each-loop-body l = in_order (map misplaced_in (drop l.body-index l.bodies)) (is_among l.may) ≡ in_order (map misplaced_in l.bodies) (is_among l.may)

abbrev pub invariant-misplaced_in_branches-loop-branch : goal.invariant-misplaced_in_branches-loop-branch
invariant-misplaced_in_branches-loop-branch l = in_order (map misplaced_in_branch (drop l.branch-index l.branches)) (is_among l.may) ≡ in_order (map misplaced_in_branch l.branches) (is_among l.may)

abbrev pub invariant-misplaced_in_cases-loop-branch : goal.invariant-misplaced_in_cases-loop-branch
invariant-misplaced_in_cases-loop-branch l = in_order (map misplaced_in_case (drop l.branch-index l.branches)) (is_among l.may) ≡ in_order (map misplaced_in_case l.branches) (is_among l.may)

abbrev pub invariant-misplaced_in_steps-loop-step : goal.invariant-misplaced_in_steps-loop-step
invariant-misplaced_in_steps-loop-step l = in_order (map misplaced_in_step (drop l.step-index l.steps)) (is_among l.may) ≡ in_order (map misplaced_in_step l.steps) (is_among l.may)
