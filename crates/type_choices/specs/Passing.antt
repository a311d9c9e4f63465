-- A table into which forms were put, and the forms that are left.
use Rattle.std.specs.Prelude.{◌≡◌, ◌≤◌, ◌<◌, ◌+◌, ℕ, List, length, Option, Some, None, Result, Ok, Err, Vec}
use Rattle.std.specs.List.{AllByRecursion}
use Rattle.std.specs.declared.alloc.AllocError.{AllocError}
use Rattle.type_table.specs.declared.rows.Row.{Row}
use Rattle.type_table.specs.Tables.{Typing, IsTable}
use Rattle.type_count.specs.Typings.{IsTyping, Agrees}
use Rattle.type_schemes.specs.declared.forms.Form.{Form}
use Rattle.type_choices.specs.Forms.{KeepsAll, Stands, AreForms}
use Rattle.type_choices.specs.Settling.{MayWait}

-- within each number of nodes, the new table and the forms left have the typings of the old ones, with types for the new rows
pub record Carries (old new : List Row) (forms left : List Form) : Type 0 where
  pub table : IsTable new
  pub longer : length old ≤ length new
  pub within : (count : ℕ) → AreForms count forms → AreForms count left
  pub fewer : length left ≤ length forms
  pub forth : (limit : ℕ) (s : Typing) → Stands limit old forms s → (t : Typing) × Stands limit new left t × Agrees (length old) s t
  pub back : (limit : ℕ) (s : Typing) → Stands limit new left s → Stands limit old forms s

-- no typing of the table keeps the forms
abbrev pub HasNone : List Row → List Form → Type 0
HasNone rows forms = (limit : ℕ) (s : Typing) → Stands limit rows forms s → ⊥

-- each form is kept where open parts are numbers
abbrev pub AllWait : List Row → List Form → Type 0
AllWait rows = AllByRecursion (MayWait rows)

-- once forms were looked at; where none was put into the table, all of them wait
abbrev pub Passes : {S : Type 0} → List Row → List Row → List Form → Result (Option (Vec Form S)) AllocError → Type 0
Passes old new forms (Ok (Some left)) = Carries old new forms left.items × (length left.items ≡ length forms → AllWait new left.items)
Passes old new forms (Ok None) = HasNone old forms
Passes old new forms (Err e) = Unit {0}

-- until all that are left wait
abbrev pub SettlesAll : {S : Type 0} → List Row → List Row → List Form → Result (Option (Vec Form S)) AllocError → Type 0
SettlesAll old new forms (Ok (Some left)) = Carries old new forms left.items × AllWait new left.items
SettlesAll old new forms (Ok None) = HasNone old forms
SettlesAll old new forms (Err e) = Unit {0}
