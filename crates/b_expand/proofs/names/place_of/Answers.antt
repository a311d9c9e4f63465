use Rattle.b_expand.specs.Standing.{params_at}
use Rattle.b_expand.proofs.Indexing.{parameters_known, no_parameters}
use Rattle.b_expand.proofs.names.place_of.Goals as goal

-- the index answers as a search through the parameters does
pub returns-in-Some : goal.returns-in-Some
returns-in-Some c =
    c.first.ensures.among (params_at c.args.table.now.defs.now c.args.place)
    (parameters_known c.args.table.now.defs.now c.args.table.now.index.now c.requires c.as_slice.result.now c.as_slice.ensures c.args.place c.in-Some.index.now c.in-Some.ensures)

-- and without one there are no parameters
pub returns-in-None : goal.returns-in-None
returns-in-None c = no_parameters c.args.table.now.defs.now c.args.table.now.index.now c.requires c.as_slice.result.now c.as_slice.ensures c.args.place c.in-None.ensures c.args.name.now
