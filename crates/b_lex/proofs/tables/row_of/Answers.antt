use Rattle.b_lex.proofs.InRows.{texts_at}
use Rattle.b_lex.proofs.tables.row_of.Goals as goal

pub returns : goal.returns
returns c = texts_at c.args.table.now _ c.args.row c.requires
