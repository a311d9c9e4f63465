use Rattle.pack_state.specs.Unpacking.{read_many, reader}
use Rattle.pack_state.proofs.Loops.{many_go}
use Rattle.pack_state.proofs.unpacking.+read.Goals as goal

pub values_at-loop-preserved : goal.values_at-loop-preserved
values_at-loop-preserved t c =
    let read = reader c.args.sets.now c.args.ty.now in
    rw c.in_ok-push.ensures.ok (many_go read c.loop.values c.args.count c.loop.counter c.loop.rest.now (read_many read c.args.count c.args.bytes.now)
    c.in_ok-value.value c.in_ok-value.after.now c.loop-test.true c.in_ok-value.ensures c.loop.invariant)
