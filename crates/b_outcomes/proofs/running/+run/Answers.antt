use Rattle.std.proofs.Common.{◌≡◌, ◌<◌, ◌+◌, ◌++◌, Bool, false, List, [], Option, Ok, Err, None, Some, map, length, refl, sym, ap, ◌∙◌, subst, arith}
use Rattle.std.specs.List.{AllByRecursion}
use Rattle.b_meaning.specs.Meaning.{tuple_limit, binder_of, values_of}
use Rattle.b_meaning.specs.Tuples.{places_ahead}
use Rattle.b_places.specs.ScopeLaws.{inner_slots}
use Rattle.b_places.specs.Scopes.{Slots, slots_of}
use Rattle.b_tree.specs.declared.substitutions.Branch.{Branch}
use Rattle.b_tree.specs.declared.substitutions.CaseBranch.{CaseBranch}
use Rattle.b_tree.specs.declared.substitutions.Selection.{out-Selection}
use Rattle.b_tree.specs.declared.substitutions.Step.{out-Step}
use Rattle.b_tree.specs.declared.substitutions.SubstTree.{SubstTree}
use Rattle.b_tree.specs.declared.substitutions.SubstTree.TheVariants as form
use Rattle.b_values.specs.Values.{IsKept}
use Rattle.b_values.specs.declared.values.Value.{Value}
use Rattle.b_outcomes.specs.Frames.{IsKeptFrame, middle}
use Rattle.b_outcomes.specs.Gathered.{Gathered, gathers, Leaves}
use Rattle.b_outcomes.specs.Outcomes.{Effect, BranchMeaning, CaseMeaning, effect_of, branch_of, case_of, selection_of, step_of, held, labelled, first_of, all_of, at_tuple, after, after_all}
use Rattle.b_outcomes.specs.declared.frames.Frame.{Frame}
use Rattle.b_outcomes.proofs.Choosing.{taken, untaken, untold}
use Rattle.b_outcomes.proofs.Gathers.{gathered_all, gathered_some, gathers_ok, leaves_by, stops_by}
use Rattle.b_outcomes.proofs.Kept.{kept_middle}
use Rattle.b_outcomes.proofs.Loops.{united, passed_over, settles, unsettled, noted, unnoted}
use Rattle.b_outcomes.proofs.Steps.{no_step, last_step, stepped_on, step_stops}
use Rattle.b_outcomes.proofs.Trees.{selection_binder, step_body, flat_slots, guarded_left, any_left, such_left, if_is, select_is, select_else_is, select_any, case_form}
use Rattle.b_outcomes.proofs.Walking.{tuples_end, tuples_fault, tuple_done, tuple_stops, body_at, found_for}
use Rattle.b_outcomes.proofs.running.+run.Goals as goal

-- ---- gathered

pub gathered-frames_in-requires : goal.gathered-frames_in-requires
gathered-frames_in-requires t c =
    let whole = effect_of tuple_limit c.args.first c.args.s.now c.args.frame.now (slots_of c.args.env.now) in
    gathered_some whole c.run.new.out (subst (λ (g : Gathered). gathers g whole ≡ Ok c.run.new.out) c.new-out.ensures c.in-Ok.ensures)

pub gathered-returns-in-Ok-clause-value : goal.gathered-returns-in-Ok-clause-value
gathered-returns-in-Ok-clause-value t c =
    let whole = effect_of tuple_limit c.args.first c.args.s.now c.args.frame.now (slots_of c.args.env.now) in
    gathered_all whole c.run.new.out c.frames_in.result (subst (λ (g : Gathered). gathers g whole ≡ Ok c.run.new.out) c.new-out.ensures c.in-Ok.ensures) c.frames_in.ensures.found

-- ---- stepped

pub stepped-frames_in-requires : goal.stepped-frames_in-requires
stepped-frames_in-requires t c =
    let whole = after tuple_limit c.args.first (step_of tuple_limit c.args.first c.args.s.now) c.args.xs.now c.args.frame.now (slots_of c.args.env.now) in
    gathered_some whole c.one_step.new.out (subst (λ (g : Gathered). gathers g whole ≡ Ok c.one_step.new.out) c.new-out.ensures c.in-Ok.ensures)

pub stepped-returns-in-Ok-clause-value : goal.stepped-returns-in-Ok-clause-value
stepped-returns-in-Ok-clause-value t c =
    let whole = after tuple_limit c.args.first (step_of tuple_limit c.args.first c.args.s.now) c.args.xs.now c.args.frame.now (slots_of c.args.env.now) in
    gathered_all whole c.one_step.new.out c.frames_in.result (subst (λ (g : Gathered). gathers g whole ≡ Ok c.one_step.new.out) c.new-out.ensures c.in-Ok.ensures) c.frames_in.ensures.found

-- ---- first_branch

pub first_branch-loop-b-preserved : goal.first_branch-loop-b-preserved
first_branch-loop-b-preserved t c = passed_over (λ (l : List Branch). map (λ (m : BranchMeaning). held m c.args.frame.now (slots_of c.args.env.now)) (map (branch_of tuple_limit c.args.first) l)) (λ (x : Branch). held (branch_of tuple_limit c.args.first x) c.args.frame.now (slots_of c.args.env.now)) (λ x xs. refl)
    c.args.out.now c.loop-b.out c.try_branch.new.out c.args.branches.now c.loop-b.b-index c.b-item.result c.loop-b-test.true c.b-item.is c.loop-b.invariant c.in-Ok-false.field-0 c.in-Ok-false.field-0-test c.in-Ok-false.ensures

pub first_branch-returns-in-Ok-true : goal.first_branch-returns-in-Ok-true
first_branch-returns-in-Ok-true t c = settles (λ (l : List Branch). map (λ (m : BranchMeaning). held m c.args.frame.now (slots_of c.args.env.now)) (map (branch_of tuple_limit c.args.first) l)) (λ (x : Branch). held (branch_of tuple_limit c.args.first x) c.args.frame.now (slots_of c.args.env.now)) (λ x xs. refl)
    c.args.out.now c.loop-b.out c.try_branch.new.out c.args.branches.now c.loop-b.b-index c.b-item.result c.loop-b-test.true c.b-item.is c.loop-b.invariant c.in-Ok-true.field-0 c.in-Ok-true.field-0-test c.in-Ok-true.ensures

pub first_branch-returns-in-Err : goal.first_branch-returns-in-Err
first_branch-returns-in-Err t c = unsettled (λ (l : List Branch). map (λ (m : BranchMeaning). held m c.args.frame.now (slots_of c.args.env.now)) (map (branch_of tuple_limit c.args.first) l)) (λ (x : Branch). held (branch_of tuple_limit c.args.first x) c.args.frame.now (slots_of c.args.env.now)) (λ x xs. refl)
    c.args.out.now c.loop-b.out c.try_branch.new.out c.args.branches.now c.loop-b.b-index c.b-item.result c.loop-b-test.true c.b-item.is c.loop-b.invariant c.in-Err.s c.in-Err.ensures

-- ---- all_branches

pub all_branches-loop-b-preserved : goal.all_branches-loop-b-preserved
all_branches-loop-b-preserved t c = noted (λ (l : List Branch). map (λ (m : BranchMeaning). held m c.args.frame.now (slots_of c.args.env.now)) (map (branch_of tuple_limit c.args.first) l)) (λ (x : Branch). held (branch_of tuple_limit c.args.first x) c.args.frame.now (slots_of c.args.env.now)) (λ x xs. refl)
    c.args.out.now c.loop-b.out c.try_branch.new.out c.args.branches.now c.loop-b.b-index c.b-item.result c.loop-b-test.true c.b-item.is c.loop-b.found c.loop-b.invariant c.in-Ok.held c.in-Ok.ensures _ c.either-found.ensures

pub all_branches-returns-in-Err : goal.all_branches-returns-in-Err
all_branches-returns-in-Err t c = unnoted (λ (l : List Branch). map (λ (m : BranchMeaning). held m c.args.frame.now (slots_of c.args.env.now)) (map (branch_of tuple_limit c.args.first) l)) (λ (x : Branch). held (branch_of tuple_limit c.args.first x) c.args.frame.now (slots_of c.args.env.now)) (λ x xs. refl)
    c.args.out.now c.loop-b.out c.try_branch.new.out c.args.branches.now c.loop-b.b-index c.b-item.result c.loop-b-test.true c.b-item.is c.loop-b.found c.loop-b.invariant c.in-Err.s c.in-Err.ensures

-- ---- unions

pub run_all-loop-s-preserved : goal.run_all-loop-s-preserved
run_all-loop-s-preserved t c =
    united (λ (l : List SubstTree). map (λ (e : Effect). e c.args.frame.now (slots_of c.args.env.now)) (map (effect_of tuple_limit c.args.first) l)) (λ (x : SubstTree). effect_of tuple_limit c.args.first x c.args.frame.now (slots_of c.args.env.now)) (λ x xs. refl)
    c.args.out.now c.loop-s.out c.args.ss.now c.loop-s.s-index c.s-item.result c.loop-s-test.true c.s-item.is c.loop-s.invariant c.run.new.out c.in-Ok.ensures

pub from_each-loop-x-preserved : goal.from_each-loop-x-preserved
from_each-loop-x-preserved t c =
    united (λ (l : List Frame). map (λ (x : Frame). (step_of tuple_limit c.args.first c.args.s.now).body x (middle c.args.first x c.args.slots.now)) l) (λ (x : Frame). (step_of tuple_limit c.args.first c.args.s.now).body x (middle c.args.first x c.args.slots.now)) (λ x xs. refl)
    c.args.out.now c.loop-x.out c.args.xs.now c.loop-x.x-index c.x-item.result c.loop-x-test.true c.x-item.is c.loop-x.invariant c.from_one.new.out c.in-Ok.ensures

-- ---- the middle state

pub from_one-returns-in-Ok : goal.from_one-returns-in-Ok
from_one-returns-in-Ok t c =
    subst (λ (e : Effect). Leaves (gathers c.args.out.now (e c.args.x.now (middle c.args.first c.args.x.now c.args.slots.now))) c.run.new.out c.run.result) (sym (step_body tuple_limit c.args.first c.args.s.now))
    (subst (λ (v : Slots). Leaves (gathers c.args.out.now (effect_of tuple_limit c.args.first (out-Step c.args.s.now).body c.args.x.now v)) c.run.new.out c.run.result) (flat_slots c.as_slice.result ∙ c.as_slice.ensures ∙ c.in-Ok.ensures.value) c.run.ensures)

-- ---- LET

pub let_in-returns-in-Ok : goal.let_in-returns-in-Ok
let_in-returns-in-Ok t c =
    gathers_ok c.args.out.now c.run.new.out (values_of tuple_limit c.args.es.now (slots_of c.args.env.now)) (λ (vs : List Value). effect_of tuple_limit c.args.first c.args.body.now c.args.frame.now (slots_of c.args.env.now ++ vs)) c.in-Ok.values.items c.run.result c.in-Ok.ensures.value
    (subst (λ (x : Slots). Leaves (gathers c.args.out.now (effect_of tuple_limit c.args.first c.args.body.now c.args.frame.now x)) c.run.new.out c.run.result) (inner_slots c.args.env c.as_slice.result c.in-Ok.values.items c.as_slice.ensures.value) c.run.ensures)

-- ---- ANY

pub any_tuples-tuples-preserved : goal.any_tuples-tuples-preserved
any_tuples-tuples-preserved t c = record {
  state = tuple_done (at_tuple (selection_of tuple_limit c.args.first c.args.s.now).binder.test (λ (t : List Value). (selection_of tuple_limit c.args.first c.args.s.now).body c.args.frame.now (slots_of c.args.env.now ++ t)) (slots_of c.args.env.now)) _ c.tuples.out (places_ahead tuple_limit (selection_of tuple_limit c.args.first c.args.s.now).binder.variables (slots_of c.args.env.now) c.tuples.walk) (places_ahead tuple_limit (selection_of tuple_limit c.args.first c.args.s.now).binder.variables (slots_of c.args.env.now) c.advance.new.walk) c.advance.new.walk.values c.tuples.invariant.state c.in-Ok-true.field-0 c.in-Ok-true.field-0-test (found_for tuple_limit (selection_of tuple_limit c.args.first c.args.s.now).binder (binder_of tuple_limit (out-Selection c.args.s.now).binder) (slots_of c.args.env.now) c.tuples.walk c.advance.new.walk (Ok c.in-Ok-true.field-0) (selection_binder tuple_limit c.args.first c.args.s.now) c.in-Ok-true.ensures.found) c.one_tuple.new.out _ (body_at (selection_of tuple_limit c.args.first c.args.s.now).binder.test (slots_of c.args.env.now) _ c.advance.new.walk.values (inner_slots c.args.env c.as_slice.result c.advance.new.walk.values c.as_slice.ensures) (selection_of tuple_limit c.args.first c.args.s.now).body c.args.frame.now) c.in-Ok.ensures;
  rests = c.in-Ok-true.ensures.rests;
  kept = c.in-Ok-true.ensures.kept;
}

-- ---- `||` and `;`

pub follow-returns-then-i-steps : goal.follow-returns-then-i-steps
follow-returns-then-i-steps t c =
    leaves_by c.args.out.now c.one_step.new.out _ _ c.one_step.result
    (sym (last_step tuple_limit c.args.first c.args.frame.now (slots_of c.args.env.now) _ c.args.steps.now c.steps.left c.steps.i c.steps.invariant.state c.index-steps-i.result c.steps-test.true c.index-steps-i.is c.if-i-steps.true))
    (subst (λ (g : Gathered). Leaves (gathers g (after tuple_limit c.args.first (step_of tuple_limit c.args.first c.index-steps-i.result) c.steps.left c.args.frame.now (slots_of c.args.env.now))) c.one_step.new.out c.one_step.result) c.steps.invariant.same c.one_step.ensures)

pub follow-returns-in-Err : goal.follow-returns-in-Err
follow-returns-in-Err t c =
    step_stops tuple_limit c.args.first c.args.frame.now (slots_of c.args.env.now) _ c.args.steps.now c.steps.left c.steps.i c.steps.invariant.state c.index-steps-i.result c.steps-test.true c.index-steps-i.is
    c.args.out.now c.in-Err.s (omega (arith, c.steps-test.true, c.if-i-steps.false)) c.in-Err.ensures.value

pub follow-steps-preserved : goal.follow-steps-preserved
follow-steps-preserved t c = record {
  state = stepped_on tuple_limit c.args.first c.args.frame.now (slots_of c.args.env.now) _ c.args.steps.now c.steps.left c.steps.i c.steps.invariant.state c.index-steps-i.result c.steps-test.true c.index-steps-i.is
      (omega (arith, c.steps-test.true, c.if-i-steps.false)) c.renewed-left.result (c.in-Ok.ensures.value ∙ ap Ok (sym c.renewed-left.ensures));
  within = omega (arith, c.steps-test.true);
  kept = subst (AllByRecursion IsKeptFrame) (sym c.renewed-left.ensures) c.in-Ok.ensures.kept;
  same = c.steps.invariant.same;
}

pub follow-returns : goal.follow-returns
follow-returns t c =
    leaves_by c.args.out.now c.leave_all.new.out _ _ c.leave_all.result
    (sym (no_step tuple_limit c.args.first c.args.frame.now (slots_of c.args.env.now) _ c.args.steps.now c.steps.left c.steps.i c.steps.invariant.state c.steps-test.false))
    (subst (λ (g : Gathered). Leaves (gathers g (Ok c.steps.left)) c.leave_all.new.out c.leave_all.result) c.steps.invariant.same c.leave_all.ensures)

-- ---- forms with one part of a type of its own

pub run-returns-in-Such : goal.run-returns-in-Such
run-returns-in-Such t c = such_left tuple_limit c.args.first c.args.out.now c.such.new.out c.args.s.now c.args.frame.now (slots_of c.args.env.now) c.such.result c.in-Such.targets c.as_slice-in-Such.result.now c.in-Such.b c.in-Such.is c.as_slice-in-Such.ensures c.such.ensures

pub run-returns-in-Guarded : goal.run-returns-in-Guarded
run-returns-in-Guarded t c = guarded_left tuple_limit c.args.first c.args.out.now c.guarded.new.out c.args.s.now c.args.frame.now (slots_of c.args.env.now) c.guarded.result c.in-Guarded.g c.get.result.now c.in-Guarded.is c.get.ensures c.guarded.ensures

pub run-returns-in-Any : goal.run-returns-in-Any
run-returns-in-Any t c = any_left tuple_limit c.args.first c.args.out.now c.any_tuples.new.out c.args.s.now c.args.frame.now (slots_of c.args.env.now) c.any_tuples.result c.in-Any.s c.get-in-Any.result.now c.in-Any.is c.get-in-Any.ensures c.any_tuples.ensures

-- ---- branches

pub run-returns-in-Ok-true : goal.run-returns-in-Ok-true
run-returns-in-Ok-true t c = ap (gathers c.args.out.now) (if_is tuple_limit c.args.first c.args.s.now c.args.frame.now (slots_of c.args.env.now) c.in-If.branches c.as_slice-in-If.result.now c.in-If.other c.in-If.other c.in-If.is c.as_slice-in-If.ensures refl) ∙ taken c.args.out.now c.first_branch.new.out (first_of (map (λ (m : BranchMeaning). held m c.args.frame.now (slots_of c.args.env.now)) (map (branch_of tuple_limit c.args.first) c.as_slice-in-If.result.now))) (effect_of tuple_limit c.args.first c.in-If.other c.args.frame.now (slots_of c.args.env.now)) c.in-Ok-true.field-0 c.in-Ok-true.field-0-test c.in-Ok-true.ensures

pub run-returns-in-Ok-false : goal.run-returns-in-Ok-false
run-returns-in-Ok-false t c =
    leaves_by c.args.out.now c.run.new.out _ _ c.run.result (sym (if_is tuple_limit c.args.first c.args.s.now c.args.frame.now (slots_of c.args.env.now) c.in-If.branches c.as_slice-in-If.result.now c.in-If.other c.get-in-Ok-false.result.now c.in-If.is c.as_slice-in-If.ensures c.get-in-Ok-false.ensures))
    (untaken c.args.out.now c.first_branch.new.out c.run.new.out (first_of (map (λ (m : BranchMeaning). held m c.args.frame.now (slots_of c.args.env.now)) (map (branch_of tuple_limit c.args.first) c.as_slice-in-If.result.now))) (effect_of tuple_limit c.args.first c.get-in-Ok-false.result.now c.args.frame.now (slots_of c.args.env.now)) c.in-Ok-false.field-0 c.run.result c.in-Ok-false.field-0-test c.in-Ok-false.ensures c.run.ensures)

pub run-returns-in-If : goal.run-returns-in-If
run-returns-in-If t c =
    stops_by c.args.out.now _ _ c.in-Err.s (sym (if_is tuple_limit c.args.first c.args.s.now c.args.frame.now (slots_of c.args.env.now) c.in-If.branches c.as_slice-in-If.result.now c.in-If.other c.in-If.other c.in-If.is c.as_slice-in-If.ensures refl))
    (untold c.args.out.now (first_of (map (λ (m : BranchMeaning). held m c.args.frame.now (slots_of c.args.env.now)) (map (branch_of tuple_limit c.args.first) c.as_slice-in-If.result.now))) (effect_of tuple_limit c.args.first c.in-If.other c.args.frame.now (slots_of c.args.env.now)) false c.in-Err.s c.in-Err.ensures)

pub run-returns-in-Ok-true-all_branches : goal.run-returns-in-Ok-true-all_branches
run-returns-in-Ok-true-all_branches t c =
    let p = select_any tuple_limit c.args.first c.args.s.now c.args.frame.now (slots_of c.args.env.now) c.in-Select.branches c.as_slice-in-Select.result.now c.in-Select.other c.in-Select.is c.as_slice-in-Select.ensures in
    ap (gathers c.args.out.now) p.1 ∙ taken c.args.out.now c.all_branches.new.out (all_of (map (λ (m : BranchMeaning). held m c.args.frame.now (slots_of c.args.env.now)) (map (branch_of tuple_limit c.args.first) c.as_slice-in-Select.result.now))) p.0 c.in-Ok-true-all_branches.field-0 c.in-Ok-true-all_branches.field-0-test c.in-Ok-true-all_branches.ensures

pub run-returns-in-Some : goal.run-returns-in-Some
run-returns-in-Some t c =
    leaves_by c.args.out.now c.run-in-Some.new.out _ _ c.run-in-Some.result
    (sym (select_else_is tuple_limit c.args.first c.args.s.now c.args.frame.now (slots_of c.args.env.now) c.in-Select.branches c.as_slice-in-Select.result.now c.in-Some.other c.get-in-Some.result.now (c.in-Select.is ∙ ap (λ (o : Option SubstTree). form.Select c.in-Select.branches o) c.in-Some.is) c.as_slice-in-Select.ensures c.get-in-Some.ensures))
    (untaken c.args.out.now c.all_branches.new.out c.run-in-Some.new.out (all_of (map (λ (m : BranchMeaning). held m c.args.frame.now (slots_of c.args.env.now)) (map (branch_of tuple_limit c.args.first) c.as_slice-in-Select.result.now))) (effect_of tuple_limit c.args.first c.get-in-Some.result.now c.args.frame.now (slots_of c.args.env.now)) c.in-Ok-false-all_branches.field-0 c.run-in-Some.result c.in-Ok-false-all_branches.field-0-test c.in-Ok-false-all_branches.ensures c.run-in-Some.ensures)

pub run-returns-in-Ok-false-all_branches : goal.run-returns-in-Ok-false-all_branches
run-returns-in-Ok-false-all_branches t c =
    ap (gathers c.args.out.now) (select_is tuple_limit c.args.first c.args.s.now c.args.frame.now (slots_of c.args.env.now) c.in-Select.branches c.as_slice-in-Select.result.now (c.in-Select.is ∙ ap (λ (o : Option SubstTree). form.Select c.in-Select.branches o) c.in-None.is) c.as_slice-in-Select.ensures)
    ∙ untaken {R = Unit {0}} c.args.out.now c.all_branches.new.out c.all_branches.new.out (all_of (map (λ (m : BranchMeaning). held m c.args.frame.now (slots_of c.args.env.now)) (map (branch_of tuple_limit c.args.first) c.as_slice-in-Select.result.now))) (Ok []) c.in-Ok-false-all_branches.field-0 (Ok tt) c.in-Ok-false-all_branches.field-0-test c.in-Ok-false-all_branches.ensures refl

pub run-returns-in-Select : goal.run-returns-in-Select
run-returns-in-Select t c =
    let p = select_any tuple_limit c.args.first c.args.s.now c.args.frame.now (slots_of c.args.env.now) c.in-Select.branches c.as_slice-in-Select.result.now c.in-Select.other c.in-Select.is c.as_slice-in-Select.ensures in
    stops_by c.args.out.now _ _ c.in-Err-all_branches.s (sym p.1) (untold c.args.out.now (all_of (map (λ (m : BranchMeaning). held m c.args.frame.now (slots_of c.args.env.now)) (map (branch_of tuple_limit c.args.first) c.as_slice-in-Select.result.now))) p.0 false c.in-Err-all_branches.s c.in-Err-all_branches.ensures)

pub run-returns-in-Ok-true-first_case : goal.run-returns-in-Ok-true-first_case
run-returns-in-Ok-true-first_case t c =
    ap (gathers c.args.out.now) (case_form tuple_limit c.args.first c.args.s.now c.args.frame.now (slots_of c.args.env.now) c.in-Case.e c.in-Case.branches c.as_slice-in-Ok.result.now c.in-Case.other c.in-Case.other c.in-Ok.v c.in-Case.is c.as_slice-in-Ok.ensures refl c.in-Ok.ensures.value) ∙ taken c.args.out.now c.first_case.new.out (first_of (map (λ (m : CaseMeaning). labelled c.in-Ok.v m c.args.frame.now (slots_of c.args.env.now)) (map (case_of tuple_limit c.args.first) c.as_slice-in-Ok.result.now))) (effect_of tuple_limit c.args.first c.in-Case.other c.args.frame.now (slots_of c.args.env.now)) c.in-Ok-true-first_case.field-0 c.in-Ok-true-first_case.field-0-test c.in-Ok-true-first_case.ensures

pub run-returns-in-Ok-false-first_case : goal.run-returns-in-Ok-false-first_case
run-returns-in-Ok-false-first_case t c =
    leaves_by c.args.out.now c.run-in-Ok-false-first_case.new.out _ _ c.run-in-Ok-false-first_case.result (sym (case_form tuple_limit c.args.first c.args.s.now c.args.frame.now (slots_of c.args.env.now) c.in-Case.e c.in-Case.branches c.as_slice-in-Ok.result.now c.in-Case.other c.get-in-Ok-false-first_case.result.now c.in-Ok.v c.in-Case.is c.as_slice-in-Ok.ensures c.get-in-Ok-false-first_case.ensures c.in-Ok.ensures.value))
    (untaken c.args.out.now c.first_case.new.out c.run-in-Ok-false-first_case.new.out (first_of (map (λ (m : CaseMeaning). labelled c.in-Ok.v m c.args.frame.now (slots_of c.args.env.now)) (map (case_of tuple_limit c.args.first) c.as_slice-in-Ok.result.now))) (effect_of tuple_limit c.args.first c.get-in-Ok-false-first_case.result.now c.args.frame.now (slots_of c.args.env.now)) c.in-Ok-false-first_case.field-0 c.run-in-Ok-false-first_case.result c.in-Ok-false-first_case.field-0-test c.in-Ok-false-first_case.ensures c.run-in-Ok-false-first_case.ensures)

pub run-returns-in-Ok : goal.run-returns-in-Ok
run-returns-in-Ok t c =
    stops_by c.args.out.now _ _ c.in-Err-first_case.s (sym (case_form tuple_limit c.args.first c.args.s.now c.args.frame.now (slots_of c.args.env.now) c.in-Case.e c.in-Case.branches c.as_slice-in-Ok.result.now c.in-Case.other c.in-Case.other c.in-Ok.v c.in-Case.is c.as_slice-in-Ok.ensures refl c.in-Ok.ensures.value))
    (untold c.args.out.now (first_of (map (λ (m : CaseMeaning). labelled c.in-Ok.v m c.args.frame.now (slots_of c.args.env.now)) (map (case_of tuple_limit c.args.first) c.as_slice-in-Ok.result.now))) (effect_of tuple_limit c.args.first c.in-Case.other c.args.frame.now (slots_of c.args.env.now)) false c.in-Err-first_case.s c.in-Err-first_case.ensures)
