use Rattle.std.proofs.Common.{arith}
use Rattle.b_sets.proofs.IntervalLaws.{integers_more, integers_done}
use Rattle.b_sets.proofs.numbers.integers_between.Goals as goal

pub loop-place-preserved : goal.loop-place-preserved
loop-place-preserved c = integers_more _ _ _ _ _ c.loop-place.invariant c.integer_at.ensures c.in_ok-push.ensures.ok

pub returns : goal.returns
returns c = integers_done c.args.low.now c.args.high.now _ _ c.loop-place.invariant (omega arith)
