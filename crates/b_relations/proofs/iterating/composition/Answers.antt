use Rattle.b_relations.proofs.IterateLaws.{compose_step, compose_end}
use Rattle.b_relations.proofs.iterating.composition.Goals as goal

pub loop-m-preserved : goal.loop-m-preserved
loop-m-preserved c = compose_step c.args.r.now c.args.s.now c.loop-m.m-index c.m-item.result c.loop-m.found.items c.push_compositions.new.found.items c.make_room-room.new.found.items c.loop-m-test.true c.m-item.is c.loop-m.invariant c.in_ok-push_compositions.ensures c.make_room-room.ensures

pub returns : goal.returns
returns c = compose_end c.args.r.now c.args.s.now c.loop-m.m-index c.loop-m.found.items c.set_from.result c.loop-m-test.false c.loop-m.invariant c.set_from.ensures.set
