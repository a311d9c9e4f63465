use Rattle.std.proofs.Common.{◌≤◌, drop, arith}
use Rattle.b_values.proofs.ReadingSteps.{opened_more}
use Rattle.b_values.proofs.reading.opened_at.Goals as goal

pub loop-count-preserved : goal.loop-count-preserved
loop-count-preserved c =
    let e = c.in-Some.ensures in
    let before = c.loop-count.invariant.place in
    let from = before.0 in
    let on = e.1.0 in
    record {
      place = (omega arith, e.1.1);
      same = opened_more c.args.limit c.loop-count.count (drop c.loop-count.to c.args.text.now) (drop c.in-Some.next c.args.text.now) c.loop-count-test.true e.0 _ c.loop-count.invariant.same;
    }
