-- What a table with its index and its summaries says.
use Rattle.std.specs.Prelude.{◌≡◌, length}
use Rattle.b_summaries.specs.declared.expanding.Definitions.{Definitions}
use Rattle.b_summaries.specs.Standing.{IsIndexed, AreTold}

-- the index is that of the table, and each definition is told
pub record IsMade (d : Definitions) : Type 0 where
  pub indexed : IsIndexed d.table.now.defs d.index
  pub told : AreTold d.table.now.defs d.known
  pub all : length d.known ≡ length d.table.now.defs
