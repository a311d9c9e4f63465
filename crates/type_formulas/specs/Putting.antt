-- The rows of a type behind a table.
use Rattle.std.specs.Prelude.{◌≡◌, ◌≤◌, ◌<◌, ℕ, List, length, Result, Ok, Err}
use Rattle.std.specs.declared.alloc.AllocError.{AllocError}
use Rattle.b_values.specs.declared.types.Ty.{Ty}
use Rattle.type_table.specs.declared.rows.Row.{Row}
use Rattle.type_table.specs.Types.{type_nodes}
use Rattle.type_table.specs.Tables.{Typing, IsTable}
use Rattle.type_count.specs.Typings.{IsTyping, Agrees}

-- the part p of the new table is of the type, and of the parts before nothing more is said
pub record IsPut (old new : List Row) (t : Ty) (p : ℕ) : Type 0 where
  pub table : IsTable new
  pub longer : length old ≤ length new
  pub inside : p < length new
  pub forth : (limit : ℕ) (s : Typing) → IsTyping limit old s → type_nodes t ≤ limit → (u : Typing) × IsTyping limit new u × Agrees (length old) s u
  pub back : (limit : ℕ) (s : Typing) → IsTyping limit new s → IsTyping limit old s × (s p ≡ t)

abbrev pub Puts : List Row → List Row → Ty → Result ℕ AllocError → Type 0
Puts old new t (Ok p) = IsPut old new t p
Puts old new t (Err e) = Unit {0}
