use Rattle.b_definitions.specs.Tables.{IsIndexed}
use Rattle.b_definitions.proofs.arranging.indexed.Goals as goal

-- an index of a table is one for its bodies
pub returns : goal.returns
unfolding IsIndexed
returns c = c.index_of.ensures
