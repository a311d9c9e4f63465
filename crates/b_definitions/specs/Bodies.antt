-- What the record of a body says.
use Rattle.b_names.specs.Index.{IsIndexOfNames}
use Rattle.b_definitions.specs.declared.uses.Body.{Body}
use Rattle.b_definitions.specs.Tables.{IsIndexed}

-- the index is that of the table, and the places those of the parameters
pub record IsReady (b : Body) : Type 0 where
  pub indexed : IsIndexed b.table.now b.index.now
  pub places : IsIndexOfNames b.params.now b.places.now
