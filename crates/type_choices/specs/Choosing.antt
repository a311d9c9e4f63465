-- How many typings of a table keep forms.
use Rattle.std.specs.Prelude.{◌≡◌, ◌≤◌, ◌<◌, ℕ, Bool, true, false, List, length, Result, Ok, Err}
use Rattle.std.specs.declared.alloc.AllocError.{AllocError}
use Rattle.b_values.specs.declared.types.Ty.{Ty}
use Rattle.b_values.specs.declared.types.Ty.TheVariants.{Int}
use Rattle.type_table.specs.declared.rows.Row.{Row}
use Rattle.type_table.specs.declared.rows.Row.TheVariants as row
use Rattle.type_table.specs.Types.{type_nodes}
use Rattle.type_table.specs.Tables.{Typing, IsTable, Reads, row_at}
use Rattle.type_count.specs.Typings.{IsTyping, ExactlyOne, MoreThanOne, never}
use Rattle.type_schemes.specs.declared.rules.Rule.{Rule}
use Rattle.type_schemes.specs.Rules.{Obeys}
use Rattle.type_schemes.specs.declared.forms.Form.{Form}
use Rattle.type_choices.specs.declared.choosing.Choice.{Choice}
use Rattle.type_choices.specs.declared.choosing.Choice.TheVariants as choice
use Rattle.type_choices.specs.declared.choosing.Typed.{Typed}
use Rattle.type_choices.specs.declared.choosing.Typed.TheVariants as typed
use Rattle.type_choices.specs.Forms.{Keeps, Stands}

-- the table says the type of each part, and it is that of the one typing
pub record Says (limit parts : ℕ) (P : Typing → Type 0) (rows : List Row) : Type 0 where
  pub exactly : ExactlyOne parts P
  pub table : IsTable rows
  pub inside : parts ≤ length rows
  pub types : (i : ℕ) → i < parts → (t : Ty) × Reads rows never i t × (type_nodes t ≤ limit) × ((s : Typing) → P s → s i ≡ t)

-- no typing, one whose types a table says, or two that differ at a part
abbrev pub IsTyped : ℕ → ℕ → (Typing → Type 0) → Typed → Type 0
IsTyped limit parts P typed.Nothing = (s : Typing) → P s → ⊥
IsTyped limit parts P (typed.One rows) = Says limit parts P rows.items
IsTyped limit parts P typed.Many = MoreThanOne parts P

-- the table has a typing whose open parts are numbers, or none
abbrev pub HasNumbers : ℕ → List Row → Bool → Type 0
HasNumbers limit rows true = (s : Typing) × IsTyping limit rows s × ((k : ℕ) → row_at rows k ≡ row.Open → s k ≡ Int)
HasNumbers limit rows false = (s : Typing) → IsTyping limit rows s → ⊥

-- there is a typing that keeps the forms, or there is none
abbrev pub Finds : ℕ → List Row → List Form → Result Bool AllocError → Type 0
Finds limit rows forms (Ok true) = (s : Typing) × Stands limit rows forms s
Finds limit rows forms (Ok false) = (s : Typing) → Stands limit rows forms s → ⊥
Finds limit rows forms (Err e) = Unit {0}

abbrev pub FindsWith : ℕ → List Row → List Form → (Typing → Type 0) → Result Bool AllocError → Type 0
FindsWith limit rows forms Q (Ok true) = (s : Typing) × Stands limit rows forms s × Q s
FindsWith limit rows forms Q (Ok false) = (s : Typing) → Stands limit rows forms s → Q s → ⊥
FindsWith limit rows forms Q (Err e) = Unit {0}

-- in each typing that keeps the others, the form is kept exactly where its parts obey the rule
pub record IsOnly (limit : ℕ) (rows : List Row) (others : List Form) (f : Form) (q : Rule) : Type 0 where
  pub forth : (s : Typing) → Stands limit rows others s → Keeps s f → Obeys q (s f.left) (s f.right) (s f.whole)
  pub back : (s : Typing) → Obeys q (s f.left) (s f.right) (s f.whole) → Keeps s f

-- two typings that differ at the left part of a form
pub record AreBoth (limit : ℕ) (rows : List Row) (others : List Form) (f : Form) : Type 0 where
  pub one : Typing
  pub other : Typing
  pub one_is : Stands limit rows others one
  pub one_keeps : Keeps one f
  pub other_is : Stands limit rows others other
  pub other_keeps : Keeps other f
  pub differ : one f.left ≡ other f.left → ⊥

-- a form beside others can't be kept, by one rule alone, or by both
abbrev pub Chooses : ℕ → List Row → List Form → Form → Result Choice AllocError → Type 0
Chooses limit rows others f (Ok choice.Neither) = (s : Typing) → Stands limit rows others s → Keeps s f → ⊥
Chooses limit rows others f (Ok (choice.Only q)) = IsOnly limit rows others f q
Chooses limit rows others f (Ok choice.Both) = AreBoth limit rows others f
Chooses limit rows others f (Err e) = Unit {0}
