use Rattle.std.proofs.Common.{◌≡◌, ◌+◌, ◌*◌, take}
use Rattle.b_substitutions.specs.Filling.{used_steps}
use Rattle.b_substitutions.specs.Filled.{substs_in, branches_in, cases_in, steps_in, called_in, use_at, steps_of, total, steps_of_branch, total_of_branches, steps_of_case, total_of_cases, steps_of_step, total_of_steps, steps_of_body}
use Rattle.b_substitutions.proofs.filler.+fill_subst.Given as goal

-- those so far
abbrev pub invariant-fill_all-loop-body : goal.invariant-fill_all-loop-body
invariant-fill_all-loop-body l = l.filled ≡ substs_in l.text (take l.body-index l.bodies)

abbrev pub invariant-fill_branches-loop-branch : goal.invariant-fill_branches-loop-branch
invariant-fill_branches-loop-branch l = l.filled ≡ branches_in l.text (take l.branch-index l.branches)

abbrev pub invariant-fill_cases-loop-branch : goal.invariant-fill_cases-loop-branch
invariant-fill_cases-loop-branch l = l.filled ≡ cases_in l.text (take l.branch-index l.branches)

abbrev pub invariant-fill_steps-loop-step : goal.invariant-fill_steps-loop-step
invariant-fill_steps-loop-step l = l.filled ≡ steps_in l.text (take l.step-index l.steps)

-- the steps that are left
abbrev pub decreases-fill_subst : goal.decreases-fill_subst
decreases-fill_subst l = 8 * steps_of l.text.now l.subst.now

abbrev pub decreases-fill_part : goal.decreases-fill_part
decreases-fill_part l = 8 * steps_of l.text.now l.subst.now + 1

abbrev pub decreases-fill_block : goal.decreases-fill_block
decreases-fill_block l = 8 * steps_of l.text.now l.body.now + 2

abbrev pub decreases-fill_guarded : goal.decreases-fill_guarded
decreases-fill_guarded l = 8 * steps_of l.text.now l.body.now + 2

abbrev pub decreases-fill_if : goal.decreases-fill_if
decreases-fill_if l = 8 * total_of_branches l.text.now l.branches.now + 3

abbrev pub decreases-fill_if_else : goal.decreases-fill_if_else
decreases-fill_if_else l = 8 * (total_of_branches l.text.now l.branches.now + steps_of l.text.now l.body.now) + 3

abbrev pub decreases-fill_select : goal.decreases-fill_select
decreases-fill_select l = 8 * total_of_branches l.text.now l.branches.now + 3

abbrev pub decreases-fill_select_else : goal.decreases-fill_select_else
decreases-fill_select_else l = 8 * (total_of_branches l.text.now l.branches.now + steps_of l.text.now l.body.now) + 3

abbrev pub decreases-fill_choice : goal.decreases-fill_choice
decreases-fill_choice l = 8 * total l.text.now l.bodies.now + 2

abbrev pub decreases-fill_case : goal.decreases-fill_case
decreases-fill_case l = 8 * total_of_cases l.text.now l.branches.now + 3

abbrev pub decreases-fill_case_else : goal.decreases-fill_case_else
decreases-fill_case_else l = 8 * (total_of_cases l.text.now l.branches.now + steps_of l.text.now l.body.now) + 3

abbrev pub decreases-fill_any : goal.decreases-fill_any
decreases-fill_any l = 8 * steps_of l.text.now l.body.now + 2

abbrev pub decreases-fill_let : goal.decreases-fill_let
decreases-fill_let l = 8 * steps_of l.text.now l.body.now + 2

abbrev pub decreases-fill_chain : goal.decreases-fill_chain
decreases-fill_chain l = 8 * (steps_of l.text.now l.first.now + total_of_steps l.text.now l.steps.now) + 3

abbrev pub decreases-fill_all : goal.decreases-fill_all
decreases-fill_all l = 8 * total l.text.now l.bodies.now + 1

abbrev pub decreases-fill_branches : goal.decreases-fill_branches
decreases-fill_branches l = 8 * total_of_branches l.text.now l.branches.now + 2

abbrev pub decreases-fill_branch : goal.decreases-fill_branch
decreases-fill_branch l = 8 * steps_of_branch l.text.now l.branch.now + 1

abbrev pub decreases-fill_cases : goal.decreases-fill_cases
decreases-fill_cases l = 8 * total_of_cases l.text.now l.branches.now + 2

abbrev pub decreases-fill_case_branch : goal.decreases-fill_case_branch
decreases-fill_case_branch l = 8 * steps_of_case l.text.now l.branch.now + 1

abbrev pub decreases-fill_steps : goal.decreases-fill_steps
decreases-fill_steps l = 8 * total_of_steps l.text.now l.steps.now + 2

abbrev pub decreases-fill_step : goal.decreases-fill_step
decreases-fill_step l = 8 * steps_of_step l.text.now l.step.now + 1

abbrev pub decreases-fill_use : goal.decreases-fill_use
decreases-fill_use l = 8 * used_steps (called_in l.text.now l.name.now) + 6

abbrev pub decreases-fill_called : goal.decreases-fill_called
decreases-fill_called l = 8 * used_steps (use_at l.text.now l.i) + 5

abbrev pub decreases-fill_body : goal.decreases-fill_body
decreases-fill_body l = 8 * steps_of_body l.text.now l.body.now + 2
