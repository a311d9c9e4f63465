use Rattle.b_expand.proofs.Indexing as indexing
use Rattle.b_expand.proofs.names.has_params.Goals as goal

pub returns-in-None : goal.returns-in-None
returns-in-None c = indexing.has_no_params c.args.text.now.table.defs.now c.args.text.now.here.place c.args.i c.in-None.ensures _
