use Rattle.std.proofs.Common.{subst}
use Rattle.b_ast.specs.declared.machine.DefTable.{DefTable}
use Rattle.b_parse_expr.specs.Verdicts.{Parses}
use Rattle.b_parse_expr.proofs.formulas.parse_formula_in_order.Goals as goal

-- the definitions are those of the table
pub returns-in-Ok : goal.returns-in-Ok
returns-in-Ok c = subst (λ (t : DefTable). Parses c.args.text.now c.args.tokens.now t.defs c.parse_formula_under.result) c.in-Ok.ensures.table c.parse_formula_under.ensures
