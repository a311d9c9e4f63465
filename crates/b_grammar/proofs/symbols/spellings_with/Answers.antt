-- The code's table is that of the definitions, cut into rows.
use Rattle.std.proofs.Common.{◌%◌, ◌∙◌, [], arith}
use Rattle.std.specs.Prelude.{filter}
use Rattle.b_lex.specs.Tables.{is_in_row}
use Rattle.b_lex.proofs.InRows.{rows_from, row_at}
use Rattle.b_grammar.specs.Symbols.{spellings}
use Rattle.b_grammar.proofs.symbols.spellings_with.Goals as goal

pub returns : goal.returns
unfolding spellings rows_from
returns c = c.row_of.ensures ∙ row_at (λ row. filter (λ e. is_in_row 59 row e.0) spellings) [] 59 (c.args.first % 59) (omega arith)
