use Rattle.std.proofs.Common.{reverse}
use Rattle.b_machine_text.specs.Verdicts.{kind_of_fault}
use Rattle.b_machine_text.proofs.Giving.{gives_under, told_text, told_circle}
use Rattle.b_machine_text.proofs.judging.of_parts.Goals as goal

pub returns-in-Ok-clause-text : goal.returns-in-Ok-clause-text
returns-in-Ok-clause-text c n = gives_under (reverse c.args.texts.items) c.in-Ok.table.defs c.in-Ok.ensures.0 c.args.name (kind_of_fault c.args.fault) c.args.clauses.items c.args.end c.tabled.result c.tabled.ensures

pub returns-in-Ok-clause-circle : goal.returns-in-Ok-clause-circle
returns-in-Ok-clause-circle c h = absurd (c.in-Ok.ensures.1 h)

pub returns-in-Err-clause-text : goal.returns-in-Err-clause-text
returns-in-Err-clause-text c n =
    told_text (reverse c.args.texts.items) c.in-Err.disorder c.in-Err.ensures c.args.name (kind_of_fault c.args.fault) c.args.clauses.items c.args.end c.disordered.result c.disordered.ensures n

pub returns-in-Err-clause-circle : goal.returns-in-Err-clause-circle
returns-in-Err-clause-circle c h = told_circle c.in-Err.disorder (kind_of_fault c.args.fault) c.args.end c.disordered.result c.disordered.ensures
