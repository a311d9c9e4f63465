use Rattle.std.proofs.Common.{◌≤◌, ◌∙◌, arith}
use Rattle.b_expand.specs.Standing.{frames_of, frames_from, means_in, scope_of}
use Rattle.b_substitutions.specs.Filling.{filled_subst, filled_branch, filled_case, filled_step}
use Rattle.b_substitutions.specs.Filled.{uses_in, use_at, used_by, steps_of, total, steps_of_branch, total_of_branches, steps_of_case, total_of_cases, steps_of_step, total_of_steps}
use Rattle.b_substitutions.proofs.Filling.{next_part, part_of_sum, use_tree, subst_along}
use Rattle.b_substitutions.proofs.filler.+fill_subst.Goals as goal

-- ---- lists

pub fill_all-loop-body-preserved : goal.fill_all-loop-body-preserved
fill_all-loop-body-preserved t c =
    next_part (filled_subst (means_in c.args.text.now) (uses_in c.args.text.now)) (scope_of c.args.text.now) c.args.bodies.now c.loop-body.body-index c.body-item.result c.loop-body-test.true c.body-item.is
    c.loop-body.filled c.loop-body.invariant c.in_ok-part.part c.in_ok-part.ensures _ c.in_ok-push.ensures.ok

pub fill_branches-loop-branch-preserved : goal.fill_branches-loop-branch-preserved
fill_branches-loop-branch-preserved t c =
    next_part (filled_branch (means_in c.args.text.now) (uses_in c.args.text.now)) (scope_of c.args.text.now) c.args.branches.now c.loop-branch.branch-index c.branch-item.result c.loop-branch-test.true c.branch-item.is
    c.loop-branch.filled c.loop-branch.invariant c.in_ok-part.part c.in_ok-part.ensures _ c.in_ok-push.ensures.ok

pub fill_cases-loop-branch-preserved : goal.fill_cases-loop-branch-preserved
fill_cases-loop-branch-preserved t c =
    next_part (filled_case (means_in c.args.text.now) (uses_in c.args.text.now)) (scope_of c.args.text.now) c.args.branches.now c.loop-branch.branch-index c.branch-item.result c.loop-branch-test.true c.branch-item.is
    c.loop-branch.filled c.loop-branch.invariant c.in_ok-part.part c.in_ok-part.ensures _ c.in_ok-push.ensures.ok

pub fill_steps-loop-step-preserved : goal.fill_steps-loop-step-preserved
fill_steps-loop-step-preserved t c =
    next_part (filled_step (means_in c.args.text.now) (uses_in c.args.text.now)) (scope_of c.args.text.now) c.args.steps.now c.loop-step.step-index c.step-item.result c.loop-step-test.true c.step-item.is
    c.loop-step.filled c.loop-step.invariant c.in_ok-part.part c.in_ok-part.ensures _ c.in_ok-push.ensures.ok

pub fill_all-fill_subst-requires : goal.fill_all-fill_subst-requires
fill_all-fill_subst-requires t c =
    let k : steps_of c.args.text.now c.body-item.result ≤ total c.args.text.now c.args.bodies.now = part_of_sum (steps_of c.args.text.now) c.args.bodies.now c.loop-body.body-index c.body-item.result c.loop-body-test.true c.body-item.is in
    (omega arith, (c.requires.ready, c.requires.level))

pub fill_branches-fill_branch-requires : goal.fill_branches-fill_branch-requires
fill_branches-fill_branch-requires t c =
    let k : steps_of_branch c.args.text.now c.branch-item.result ≤ total_of_branches c.args.text.now c.args.branches.now = part_of_sum (steps_of_branch c.args.text.now) c.args.branches.now c.loop-branch.branch-index c.branch-item.result c.loop-branch-test.true c.branch-item.is in
    (omega arith, (c.requires.ready, c.requires.level))

pub fill_cases-fill_case_branch-requires : goal.fill_cases-fill_case_branch-requires
fill_cases-fill_case_branch-requires t c =
    let k : steps_of_case c.args.text.now c.branch-item.result ≤ total_of_cases c.args.text.now c.args.branches.now = part_of_sum (steps_of_case c.args.text.now) c.args.branches.now c.loop-branch.branch-index c.branch-item.result c.loop-branch-test.true c.branch-item.is in
    (omega arith, (c.requires.ready, c.requires.level))

pub fill_steps-fill_step-requires : goal.fill_steps-fill_step-requires
fill_steps-fill_step-requires t c =
    let k : steps_of_step c.args.text.now c.step-item.result ≤ total_of_steps c.args.text.now c.args.steps.now = part_of_sum (steps_of_step c.args.text.now) c.args.steps.now c.loop-step.step-index c.step-item.result c.loop-step-test.true c.step-item.is in
    (omega arith, (c.requires.ready, c.requires.level))

-- ---- uses

pub fill_called-returns-in-Some : goal.fill_called-returns-in-Some
fill_called-returns-in-Some t c =
    subst_along c.fill_body.result _ (used_by c.args.text.now c.args.depth (use_at c.args.text.now c.args.i) c.args.arguments)
    (use_tree c.args.text.now.table.defs.now c.args.text.now.here (record { place = c.args.i; round = c.round_of_use.result; arguments = c.args.arguments }) (frames_of c.args.text.now.callers) (frames_from c.caller_of-caller.result) c.args.i c.in-Some.def.now c.in-Some.ensures c.caller_of-caller.ensures
    c.args.depth c.round_of_use.result c.round_of_use.ensures) c.fill_body.ensures
