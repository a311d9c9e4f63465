-- A type told within a budget.
use Rattle.std.specs.Prelude.{◌≡◌, ◌+◌, ℕ, List, Option, Some, None, Result, Ok, Err}
use Rattle.std.specs.declared.alloc.AllocError.{AllocError}
use Rattle.type_table.specs.declared.rows.Row.{Row}
use Rattle.type_table.specs.Types.{type_nodes}
use Rattle.type_table.specs.Tables.{Reads}
use Rattle.type_count.specs.declared.telling.Told.{Told}
use Rattle.type_count.specs.Typings.{never, IsReadable}

-- the type that the table says and what is left of the budget, or that it says none so small
abbrev pub Tells : List Row → ℕ → ℕ → Result (Option Told) AllocError → Type 0
Tells rows i budget (Ok (Some r)) = Reads rows never i r.ty × (type_nodes r.ty + r.left ≡ budget)
Tells rows i budget (Ok None) = IsReadable budget rows i → ⊥
Tells rows i budget (Err e) = Unit {0}
