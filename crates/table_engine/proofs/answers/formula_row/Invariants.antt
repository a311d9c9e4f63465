use Rattle.std.proofs.Common.{◌≡◌, drop}
use Rattle.table_engine.specs.Tables.{formula_row}
use Rattle.table_engine.proofs.answers.formula_row.Given as goal

abbrev pub invariant-loop-row : goal.invariant-loop-row
invariant-loop-row l = formula_row (drop l.row-index l.rows) l.text ≡ formula_row l.rows l.text
