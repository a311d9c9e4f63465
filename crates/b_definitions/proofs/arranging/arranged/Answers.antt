use Rattle.b_definitions.proofs.Following.{means_by, settles_by, exact_by}
use Rattle.b_definitions.proofs.arranging.arranged.Goals as goal

pub returns-clause-means : goal.returns-clause-means
returns-clause-means c = means_by c.args.table.defs _ c.arranged_or_circle.ensures

pub returns-clause-settled : goal.returns-clause-settled
returns-clause-settled c = settles_by c.args.table.defs _ c.arranged_or_circle.ensures

pub returns-clause-exact : goal.returns-clause-exact
returns-clause-exact c = exact_by c.args.table.defs _ c.arranged_or_circle.ensures
