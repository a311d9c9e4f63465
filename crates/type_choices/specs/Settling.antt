-- What a table says of forms, and which forms are left once those that it settles are put into it.
use Rattle.std.specs.Prelude.{◌≡◌, ◌≤◌, ◌<◌, ◌⊎◌, ℕ, List, length, Option, Some, None}
use Rattle.b_values.specs.declared.types.Ty.{Ty}
use Rattle.b_values.specs.declared.types.Ty.TheVariants.{Int}
use Rattle.type_table.specs.declared.rows.Basic.{Basic}
use Rattle.type_table.specs.declared.rows.Basic.TheVariants as basic
use Rattle.type_table.specs.declared.rows.Row.{Row}
use Rattle.type_table.specs.declared.rows.Row.TheVariants as row
use Rattle.type_table.specs.Tables.{Typing, row_at, Solves}
use Rattle.type_schemes.specs.declared.rules.Rule.{Rule}
use Rattle.type_schemes.specs.Rules.{Obeys}
use Rattle.type_schemes.specs.declared.forms.Form.{Form}
use Rattle.type_choices.specs.declared.settling.Kind.{Kind}
use Rattle.type_choices.specs.declared.settling.Kind.TheVariants as kind
use Rattle.type_choices.specs.Forms.{Keeps}

abbrev pub kind_of_basic : Basic → Kind
kind_of_basic basic.Int = kind.Number
kind_of_basic b = kind.Other

-- where open parts are numbers, the part is one
abbrev pub IsOpen : List Row → ℕ → Type 0
IsOpen rows i = (s : Typing) → Solves s rows → ((k : ℕ) → row_at rows k ≡ row.Open → s k ≡ Int) → s i ≡ Int

-- the part is open, a number in each solution, or in none
abbrev pub Lookups : List Row → ℕ → Kind → Type 0
Lookups rows i kind.Open = IsOpen rows i
Lookups rows i kind.Number = (s : Typing) → Solves s rows → s i ≡ Int
Lookups rows i kind.Other = (s : Typing) → Solves s rows → s i ≡ Int → ⊥

-- in each solution the form is kept exactly where its parts obey the rule
pub record IsRule (rows : List Row) (f : Form) (q : Rule) : Type 0 where
  pub forth : (s : Typing) → Solves s rows → Keeps s f → Obeys q (s f.left) (s f.right) (s f.whole)
  pub back : (s : Typing) → Obeys q (s f.left) (s f.right) (s f.whole) → Keeps s f

-- a form that may wait is kept where open parts are numbers
abbrev pub MayWait : List Row → Form → Type 0
MayWait rows f = (s : Typing) → Solves s rows → ((k : ℕ) → row_at rows k ≡ row.Open → s k ≡ Int) → Keeps s f

abbrev pub MustBe : List Row → Form → Option Rule → Type 0
MustBe rows f (Some q) = IsRule rows f q
MustBe rows f None = MayWait rows f
