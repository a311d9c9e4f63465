use Rattle.b_expand.specs.Standing.{IsIndexed}
use Rattle.b_summaries.proofs.expanding.indexed.Goals as goal

-- an index of a table is one for a text of it
pub returns : goal.returns
unfolding IsIndexed
returns c = c.table_index.ensures
