-- What is known once some rows of a table are read.
use Rattle.std.specs.Prelude.{◌≤◌, ◌<◌, ◌+◌, ℕ, Bool, true, false, List, length, Option, Some, None}
use Rattle.type_table.specs.declared.rows.Row.{Row}
use Rattle.type_table.specs.Tables.{Typing}
use Rattle.type_count.specs.Typings.{IsTyping}
use Rattle.type_count.specs.Spending.{OpenIn, Spent}

-- each of the first rows keeps to the limit
abbrev pub AllRead : ℕ → List Row → ℕ → Type 0
AllRead limit rows count = (i : ℕ) → i < count → (left : ℕ) × (open_in : Bool) × Spent rows i limit left open_in

-- an open part stands in one of the parts, or in none that was read
abbrev pub Opens : ℕ → List Row → ℕ → Bool → Type 0
Opens parts rows count true = (i : ℕ) × (i < parts) × OpenIn rows i true
Opens parts rows count false = (i : ℕ) → i < parts → i < count → OpenIn rows i false

pub record IsCounted (limit parts : ℕ) (rows : List Row) (count : ℕ) (many : Bool) : Type 0 where
  pub read : AllRead limit rows count
  pub opens : Opens parts rows count many

-- one row more, or that no typing keeps to the limit
abbrev pub Looks : ℕ → ℕ → List Row → ℕ → Option Bool → Type 0
Looks limit parts rows count None = (s : Typing) → IsTyping limit rows s → ⊥
Looks limit parts rows count (Some many) = IsCounted limit parts rows (count + 1) many
