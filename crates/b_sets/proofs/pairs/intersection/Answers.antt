use Rattle.std.proofs.Common.{subst}
use Rattle.set_making.specs.Making.{Answers}
use Rattle.b_sets.proofs.RowLaws.{intersect_turned}
use Rattle.b_sets.proofs.pairs.intersection.Goals as goal

pub returns-else-xs-ys : goal.returns-else-xs-ys
returns-else-xs-ys c = subst (λ row. Answers row c.common-else-xs-ys.result) (intersect_turned c.args.xs.now c.args.ys.now) c.common-else-xs-ys.ensures
