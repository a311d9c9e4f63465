use Rattle.b_rows.proofs.Kept.{one_more_numbered}
use Rattle.b_rows.proofs.gathering.numbered_couples.Goals as goal

pub loop-v-preserved : goal.loop-v-preserved
loop-v-preserved c = one_more_numbered c.args.values.now c.loop-v.couples.items _ c.loop-v.v-index c.v-item.result c.loop-v-test.true c.v-item.is c.loop-v.invariant c.in_ok-push_numbered.ensures
