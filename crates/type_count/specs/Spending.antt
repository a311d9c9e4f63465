-- A budget for the nodes of a part's type.
use Rattle.std.specs.Prelude.{◌≡◌, ◌≤◌, ◌<◌, ◌+◌, ℕ, Bool, true, false, List, Option, Some, None}
use Rattle.b_values.specs.declared.types.Ty.{Ty}
use Rattle.type_table.specs.declared.rows.Row.{Row}
use Rattle.type_table.specs.declared.rows.Row.TheVariants as row
use Rattle.type_table.specs.Types.{type_nodes}
use Rattle.type_table.specs.Tables.{Typing, row_at, Solves, Reads, Occurs}
use Rattle.type_count.specs.declared.counting.Rest.{Rest}
use Rattle.type_count.specs.Typings.{never}

-- each open part has a type
abbrev pub given : (ℕ → Ty) → ℕ → Option Ty
given d k = Some (d k)

-- whether an open part stands in a part's type
abbrev pub OpenIn : List Row → ℕ → Bool → Type 0
OpenIn rows i true = (k : ℕ) × (row_at rows k ≡ row.Open) × Occurs rows k i
OpenIn rows i false = (t : Ty) × Reads rows never i t

-- the part's type has so many nodes, whichever types of one node the open parts have
pub record Spent (rows : List Row) (i budget left : ℕ) (open_in : Bool) : Type 0 where
  pub nodes : ℕ
  pub sum : nodes + left ≡ budget
  pub some : 1 ≤ nodes
  pub reads : (d : ℕ → Ty) → ((k : ℕ) → type_nodes (d k) ≡ 1) → (t : Ty) × Reads rows (given d) i t × (type_nodes t ≡ nodes)
  pub opens : OpenIn rows i open_in

-- what is left of a budget, or that no solution keeps to it
abbrev pub Spends : List Row → ℕ → ℕ → Option Rest → Type 0
Spends rows i budget None = (s : Typing) → Solves s rows → budget < type_nodes (s i)
Spends rows i budget (Some r) = Spent rows i budget r.left r.open
