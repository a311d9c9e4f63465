use Rattle.std.proofs.Common.{reverse}
use Rattle.b_machine_text.specs.Machines.{expanded_clauses}
use Rattle.b_machine_text.proofs.Giving.{built_text}
use Rattle.b_machine_text.proofs.judging.built.Goals as goal

pub returns-in-Ok : goal.returns-in-Ok
returns-in-Ok c = built_text c.args.name (expanded_clauses c.args.defs.now.formulas.table.now.defs c.args.clauses.items) (reverse c.in-Ok.turned.items) c.in-Ok.ensures c.put_together.result c.put_together.ensures
