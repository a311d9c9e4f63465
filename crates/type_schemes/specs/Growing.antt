-- A table with more rows, and what it says more of the rows that stood before.
use Rattle.std.specs.Prelude.{◌≡◌, ◌≤◌, ◌<◌, ◌+◌, ℕ, Bool, true, false, List, length, Result, Ok, Err}
use Rattle.std.specs.declared.alloc.AllocError.{AllocError}
use Rattle.type_table.specs.declared.rows.Row.{Row}
use Rattle.type_table.specs.Types.{type_nodes}
use Rattle.type_table.specs.Tables.{Typing, IsTable}
use Rattle.type_count.specs.Typings.{IsTyping, Agrees}

-- within each number of nodes, the typings of the new table are those of the old one that meet Q, with types for the new rows
pub record Extends (old new : List Row) (Q : Typing → Type 0) : Type 0 where
  pub table : IsTable new
  pub longer : length old ≤ length new
  pub forth : (limit : ℕ) (s : Typing) → IsTyping limit old s → Q s → (t : Typing) × IsTyping limit new t × Agrees (length old) s t
  pub back : (limit : ℕ) (s : Typing) → IsTyping limit new s → IsTyping limit old s × Q s

-- what is said was put into the table, or no typing of it meets it; nothing is told where memory ran out
abbrev pub Demands : List Row → List Row → (Typing → Type 0) → Result Bool AllocError → Type 0
Demands old new Q (Ok true) = Extends old new Q
Demands old new Q (Ok false) = (limit : ℕ) (s : Typing) → IsTyping limit old s → Q s → ⊥
Demands old new Q (Err e) = Unit {0}

-- three parts are of the types of three rows that stand together
abbrev pub ThreeAlike : ℕ → ℕ → ℕ → ℕ → Typing → Type 0
ThreeAlike whole left right at s = (s whole ≡ s at) × (s left ≡ s (at + 1)) × (s right ≡ s (at + 2))

-- a table of which nothing is known: each typing within a number of nodes is one of it
pub record IsOpenTable (parts : ℕ) (rows : List Row) : Type 0 where
  pub table : IsTable rows
  pub count : length rows ≡ parts
  pub any : (limit : ℕ) (s : Typing) → ((i : ℕ) → i < parts → type_nodes (s i) ≤ limit) → IsTyping limit rows s
