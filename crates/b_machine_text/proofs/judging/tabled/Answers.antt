use Rattle.b_machine_text.specs.Verdicts.{verdict_by, kind_of_fault}
use Rattle.b_machine_text.proofs.Giving.{gives_tabled, gives_untabled}
use Rattle.b_machine_text.proofs.judging.tabled.Goals as goal

pub returns-in-Ok : goal.returns-in-Ok
returns-in-Ok c =
    gives_tabled c.args.table.defs (verdict_by c.args.table.defs c.args.name (kind_of_fault c.args.fault) c.args.clauses.items) c.args.end c.in-Ok.text c.with_table.result c.in-Ok.ensures c.with_table.ensures

pub returns-in-Err : goal.returns-in-Err
returns-in-Err c = gives_untabled c.args.table.defs (verdict_by c.args.table.defs c.args.name (kind_of_fault c.args.fault) c.args.clauses.items) c.args.end c.in-Err.fault c.in-Err.ensures
