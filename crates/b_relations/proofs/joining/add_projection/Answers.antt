use Rattle.b_relations.specs.Joining.{projection}
use Rattle.b_relations.proofs.JoinLaws.{projection_adds}
use Rattle.b_relations.proofs.joining.add_projection.Goals as goal

pub returns-in-Ok : goal.returns-in-Ok
returns-in-Ok c = projection_adds c.args.gathering.now c.add.new.self c.in-Ok.v (projection c.args.side c.args.x.now c.args.y.now) c.add.result c.in-Ok.ensures c.add.ensures.gathered c.add.ensures.fault
