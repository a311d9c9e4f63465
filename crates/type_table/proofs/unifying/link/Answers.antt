use Rattle.type_table.proofs.Steps.{link_merged}
use Rattle.type_table.proofs.unifying.link.Goals as goal

pub returns : goal.returns
returns c =
    link_merged c.args.rows.now c.args.low c.args.high c.meet-row.result.0 c.requires.below c.requires.inside c.meet-row.result.1
    c.requires.table c.requires.first c.requires.second c.meet-row.ensures
