use Rattle.b_definitions.specs.Tables.{IsIndexed}
use Rattle.b_definitions.proofs.uses.definition_of.Goals as goal

-- the index answers as a search through the table does
pub returns : goal.returns
unfolding IsIndexed
returns c = c.first.ensures.place c.args.body.now.table.now c.requires.indexed
