use Rattle.b_expand.proofs.Indexing.{definitions_known, first_known}
use Rattle.b_expand.proofs.names.definition_of.Goals as goal

-- the index answers as a search does
pub returns-clause-value : goal.returns-clause-value
returns-clause-value c =
    first_known c.args.text.now.table.defs.now c.args.text.now.here.place c.args.name.now c.first.result c.below.result
    (c.first.ensures.place c.args.text.now.table.defs.now (definitions_known c.args.text.now.table.defs.now c.args.text.now.table.index.now c.requires)) c.below.ensures.value
