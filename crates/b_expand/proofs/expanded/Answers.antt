use Rattle.b_expand.proofs.Putting.{expands_if_ok}
use Rattle.std.proofs.Common.{refl}
use Rattle.b_expand.proofs.expanded.Goals as goal

pub returns-clause-expands : goal.returns-clause-expands
returns-clause-expands c = expands_if_ok c.args.table.now.defs.now c.args.table.now.defs.now c.args.formula c.put_in.result refl c.put_in.ensures
