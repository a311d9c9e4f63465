use Rattle.set_making.specs.MakingLaws.{one_too_many}
use Rattle.set_making.proofs.growing.Growing.add.Goals as goal

pub returns-in_default-clause-fault : goal.returns-in_default-clause-fault
returns-in_default-clause-fault c = one_too_many c.args.self.now c.self.inside.items c.args.v c.self.inside.left c.self.view_is c.self.invariant c.in_default.ensures c.requires
