use Rattle.std.proofs.Common.{◌∙◌}
use Rattle.set_making.specs.MakingLaws.{few_enough}
use Rattle.set_making.proofs.growing.Growing.finish.Goals as goal

pub returns-in-Ok : goal.returns-in-Ok
returns-in-Ok c = few_enough c.args.self c.self.inside.items c.self.inside.left c.requires c.self.invariant c.self.view_is ∙ (let e = c.in-Ok.ensures in cc)
