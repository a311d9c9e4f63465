use Rattle.b_grammar.proofs.InRows.{entries_at}
use Rattle.b_grammar.proofs.symbols.row_of.Goals as goal

pub returns : goal.returns
returns c = entries_at c.args.table.now _ c.args.row c.requires
