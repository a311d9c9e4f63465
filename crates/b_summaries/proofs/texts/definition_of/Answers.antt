use Rattle.b_summaries.proofs.Naming.{definitions_known}
use Rattle.b_summaries.proofs.texts.definition_of.Goals as goal

-- the index answers as a search through the table does
pub returns : goal.returns
returns c = c.first.ensures.place c.args.text.now.table.now (definitions_known c.args.text.now.table.now c.args.text.now.index.now c.requires)
