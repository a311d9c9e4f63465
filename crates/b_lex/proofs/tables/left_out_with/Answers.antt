use Rattle.std.proofs.Common.{◌%◌, ◌∙◌, [], arith}
use Rattle.std.specs.Prelude.{filter}
use Rattle.b_lex.specs.Tables.{left_out_words, is_in_row}
use Rattle.b_lex.proofs.InRows.{rows_from, row_at}
use Rattle.b_lex.proofs.tables.left_out_with.Goals as goal

pub returns : goal.returns
unfolding left_out_words rows_from
returns c = c.row_of.ensures ∙ row_at (λ row. filter (is_in_row 32 row) left_out_words) [] 32 (c.args.first % 32) (omega arith)
