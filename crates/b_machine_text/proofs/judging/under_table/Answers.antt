use Rattle.std.proofs.Common.{ap}
use Rattle.b_ast.specs.declared.machine.DefTable.{DefTable}
use Rattle.b_machine_text.specs.Verdicts.{verdict_by, kind_of_fault}
use Rattle.b_machine_text.proofs.Giving.{gives_along}
use Rattle.b_machine_text.proofs.judging.under_table.Goals as goal

-- the definitions are those of the table
pub returns-in-Ok : goal.returns-in-Ok
returns-in-Ok c =
    gives_along (verdict_by c.in-Ok.defs.formulas.table.now.defs c.args.name (kind_of_fault c.args.fault) c.args.clauses.items) (verdict_by c.args.table.now.defs c.args.name (kind_of_fault c.args.fault) c.args.clauses.items)
    (ap (λ (t : DefTable). verdict_by t.defs c.args.name (kind_of_fault c.args.fault) c.args.clauses.items) c.in-Ok.ensures.table) c.args.end c.under_definitions.result c.under_definitions.ensures
