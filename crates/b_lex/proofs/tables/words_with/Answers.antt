use Rattle.std.proofs.Common.{◌%◌, ◌∙◌, [], arith}
use Rattle.std.specs.Prelude.{filter}
use Rattle.b_lex.specs.Tables.{words, is_in_row}
use Rattle.b_lex.proofs.InRows.{rows_from, row_at}
use Rattle.b_lex.proofs.tables.words_with.Goals as goal

pub returns : goal.returns
unfolding words rows_from
returns c = c.row_of.ensures ∙ row_at (λ row. filter (is_in_row 32 row) words) [] 32 (c.args.first % 32) (omega arith)
