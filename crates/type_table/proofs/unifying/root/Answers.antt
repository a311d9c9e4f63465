use Rattle.type_table.proofs.Links.{leads_more}
use Rattle.type_table.proofs.unifying.root.Goals as goal

pub loop-at-preserved : goal.loop-at-preserved
loop-at-preserved c = leads_more c.args.rows.now c.args.i c.loop-at.at c.in-Same.j c.requires.table c.loop-at.invariant c.in-Same.is
