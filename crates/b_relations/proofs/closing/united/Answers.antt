use Rattle.std.proofs.Common.{◌++◌}
use Rattle.set_making.specs.MakingLaws.{gathered_all}
use Rattle.b_relations.proofs.Results.{made_ascends}
use Rattle.b_relations.proofs.closing.united.Goals as goal

pub set_in_order-requires : goal.set_in_order-requires
set_in_order-requires c = made_ascends (c.args.xs.now ++ c.args.ys.now) c.in-Ok.members c.in-Ok.ensures

pub returns-in-Ok : goal.returns-in-Ok
returns-in-Ok c = gathered_all c.in-Ok.members (c.args.xs.now ++ c.args.ys.now) c.set_in_order.result c.in-Ok.ensures c.set_in_order.ensures
