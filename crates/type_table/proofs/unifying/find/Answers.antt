use Rattle.std.proofs.Common.{sym, subst}
use Rattle.type_table.proofs.Links.{Walks, walks_more}
use Rattle.type_table.proofs.unifying.find.Goals as goal

pub loop-rows-preserved : goal.loop-rows-preserved
loop-rows-preserved c =
    subst (λ rows. Walks c.args.rows.now rows c.args.i c.in-Same.next) (sym c.shorten.ensures)
    (walks_more c.args.rows.now c.loop-rows.rows c.args.i c.loop-rows.at c.in-Same.next c.requires.inside c.loop-rows.invariant c.in-Same.is)
