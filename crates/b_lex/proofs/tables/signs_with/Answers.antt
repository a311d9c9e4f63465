use Rattle.std.proofs.Common.{◌%◌, ◌∙◌, [], arith}
use Rattle.std.specs.Prelude.{filter}
use Rattle.b_lex.specs.Tables.{signs, is_in_row}
use Rattle.b_lex.proofs.InRows.{rows_from, row_at}
use Rattle.b_lex.proofs.tables.signs_with.Goals as goal

pub returns : goal.returns
unfolding signs rows_from
returns c = c.row_of.ensures ∙ row_at (λ row. filter (is_in_row 37 row) signs) [] 37 (c.args.first % 37) (omega arith)
