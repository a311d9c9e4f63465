use Rattle.pack_state.specs.Unpacking.{read_names}
use Rattle.pack_state.proofs.Loops.{names_go}
use Rattle.pack_state.proofs.unpacking.names_at.Goals as goal

pub loop-name-preserved : goal.loop-name-preserved
loop-name-preserved c =
    rw c.in_ok-push.ensures.ok (names_go c.args.sets.now c.loop-name.values c.args.names.now c.loop-name.name-index c.loop-name.rest.now (read_names c.args.sets.now c.args.names.now c.args.bytes.now)
    c.name-item.result c.in_ok-value.value c.in_ok-value.after.now c.loop-name-test.true c.name-item.is c.in_ok-value.ensures c.loop-name.invariant)
