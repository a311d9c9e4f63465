use Rattle.b_stretches.specs.Stretches.{pieces}
use Rattle.b_read_clauses.proofs.Laws.{header_none, header_on}
use Rattle.b_read_clauses.proofs.heads.header.Goals as goal

pub returns-in-None : goal.returns-in-None
returns-in-None c = header_none (pieces c.args.s) c.stuck.result c.in-None.ensures c.stuck.ensures

pub returns-in-Some : goal.returns-in-Some
returns-in-Some c = header_on (pieces c.args.s) (c.in-Some.field-0-0, c.in-Some.lexeme.now) (pieces c.in-Some.more) c.in-Some.ensures c.name_at.result c.params.result c.pair.result c.pair.ensures c.name_at.ensures c.params.ensures
