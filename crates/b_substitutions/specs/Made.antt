-- What a table with what is told of its definitions says.
use Rattle.std.specs.Prelude.{◌≡◌, length}
use Rattle.b_summaries.specs.Made as formulas
use Rattle.b_substitutions.specs.declared.tables.Substitutions.{Substitutions}
use Rattle.b_substitutions.specs.Standing.{AreTold}

-- formulas are told, and each definition is told as a substitution
pub record IsMade (d : Substitutions) : Type 0 where
  pub formulas : formulas.IsMade d.formulas
  pub told : AreTold d.formulas.table.now.defs d.uses
  pub all : length d.uses ≡ length d.formulas.table.now.defs
