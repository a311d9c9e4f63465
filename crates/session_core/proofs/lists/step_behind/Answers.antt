use Rattle.std.proofs.Common.{◌≡◌, ◌∙◌, sym, ap, ℕ, List, drop, slice_get, arith}
use Rattle.engine_face.specs.declared.answers.Step.{Step}
use Rattle.session_core.specs.Moving.{packed_steps}
use Rattle.session_core.proofs.Listing.{step_left, step_right}
use Rattle.session_core.proofs.lists.step_behind.Goals as goal

pub returns-then-left-count : goal.returns-then-left-count
returns-then-left-count c =
    let step : slice_get (packed_steps (drop c.loop-list.list-index c.args.lists.now)) c.loop-list.left ≡ slice_get c.list-item.result.steps c.loop-list.left =
    step_left c.args.lists.now c.loop-list.list-index c.list-item.result c.loop-list.left (omega arith) c.list-item.is (omega arith) in
    c.at.ensures ∙ ap (λ (l : List (Step (List ℕ))). slice_get l c.loop-list.left) c.as_slice.ensures ∙ sym step ∙ c.loop-list.invariant

pub loop-list-preserved : goal.loop-list-preserved
loop-list-preserved c =
    grind (arith, step_right c.args.lists.now c.loop-list.list-index c.list-item.result c.loop-list.left (omega arith) c.list-item.is (omega arith), c.loop-list.invariant)
