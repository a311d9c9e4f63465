use Rattle.std.proofs.Common.{◌≡◌, ◌⊎◌, [], inl, inr, sym, ◌∙◌, arith, drop}
use Rattle.std.proofs.lemmas.List.{drop_all}
use Rattle.set_making.specs.MergePlaces.{step_left, step_right, step_both, finish}
use Rattle.set_making.proofs.merging.merge.Goals as goal
use Rattle.set_making.proofs.merging.merge.Goals.{then-loop-i-test+else-j-ys, else-loop-i-test}

pub loop-i-preserved-in-Less : goal.loop-i-preserved-in-Less
loop-i-preserved-in-Less c = record {
  left = omega arith;
  right = omega arith;
  state = step_left _ _ _ _ _ _ _ _ _ c.loop-i-test.true c.index-xs-i.is c.if-j-ys.true c.index-ys-j.is c.loop-i.invariant.state c.in_ok-push-in-Less.ensures.ok c.in_ok-share-in-Less.ensures (sym c.order.ensures ∙ c.in-Less.is);
}

pub loop-i-preserved-in-Equal : goal.loop-i-preserved-in-Equal
loop-i-preserved-in-Equal c = record {
  left = omega arith;
  right = omega arith;
  state = step_both _ _ _ _ _ _ _ _ _ c.loop-i-test.true c.index-xs-i.is c.if-j-ys.true c.index-ys-j.is c.loop-i.invariant.state c.in_ok-push-in-Equal.ensures.ok c.in_ok-share-in-Equal.ensures (sym c.order.ensures ∙ c.in-Equal.is);
}

pub loop-i-preserved : goal.loop-i-preserved
loop-i-preserved c = record {
  left = omega arith;
  right = omega arith;
  state = step_right _ _ _ _ _ _ _ _ _ c.loop-i-test.true c.index-xs-i.is c.if-j-ys.true c.index-ys-j.is c.loop-i.invariant.state c.in_ok-push-in-Greater.ensures.ok c.in_ok-share-in-Greater.ensures (sym c.order.ensures ∙ c.in-Greater.is);
}

pub returns : goal.returns
returns c =
    let over : (drop c.loop-i.i c.args.xs.now ≡ []) ⊎ (drop c.loop-i.j c.args.ys.now ≡ []) =
    elim c.loop-i-test.branch [ then-loop-i-test+else-j-ys w ↦ inr (drop_all _ _ w.if-j-ys.false) | else-loop-i-test w ↦ inl (drop_all _ _ w.loop-i-test.false) ] in
    finish _ _ _ _ _ _ _ c.loop-i.invariant.state over c.in_ok-push_all.ensures c.in_ok-push_all-2.ensures
