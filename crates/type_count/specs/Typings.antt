-- How many typings there are, whatever a typing has to meet, and the types that a table says.
use Rattle.std.specs.Prelude.{◌≡◌, ◌≤◌, ◌<◌, ◌+◌, ℕ, List, length, Option, Some, None, Result, Ok, Err}
use Rattle.std.specs.declared.alloc.AllocError.{AllocError}
use Rattle.b_values.specs.declared.types.Ty.{Ty}
use Rattle.b_values.specs.declared.types.Ty.TheVariants.{Int}
use Rattle.type_table.specs.declared.rows.Row.{Row}
use Rattle.type_table.specs.declared.rows.Row.TheVariants as row
use Rattle.type_table.specs.Types.{type_nodes}
use Rattle.type_table.specs.Tables.{Typing, row_at, Solves, Reads}
use Rattle.type_count.specs.declared.counting.Verdict.{Verdict}
use Rattle.type_count.specs.declared.counting.Verdict.TheVariants as verdict

-- a solution of the table whose types have at most so many nodes
pub record IsTyping (limit : ℕ) (rows : List Row) (s : Typing) : Type 0 where
  pub solves : Solves s rows
  pub small : (i : ℕ) → i < length rows → type_nodes (s i) ≤ limit

-- the same types of the parts, which are the first rows
abbrev pub Agrees : ℕ → Typing → Typing → Type 0
Agrees parts s t = (i : ℕ) → i < parts → t i ≡ s i

-- there is a typing, and all typings agree on the parts
pub record ExactlyOne (parts : ℕ) (P : Typing → Type 0) : Type 0 where
  pub one : Typing
  pub is : P one
  pub only : (t : Typing) → P t → Agrees parts one t

-- two typings differ at a part
pub record MoreThanOne (parts : ℕ) (P : Typing → Type 0) : Type 0 where
  pub one : Typing
  pub other : Typing
  pub one_is : P one
  pub other_is : P other
  pub part : ℕ
  pub within : part < parts
  pub differ : one part ≡ other part → ⊥

abbrev pub Counts : ℕ → (Typing → Type 0) → Verdict → Type 0
Counts parts P verdict.Nothing = (s : Typing) → P s → ⊥
Counts parts P verdict.One = ExactlyOne parts P
Counts parts P verdict.Many = MoreThanOne parts P

-- an open part has no type
abbrev pub never : ℕ → Option Ty
never k = None

-- the table says the part's type, of at most so many nodes
abbrev pub IsReadable : ℕ → List Row → ℕ → Type 0
IsReadable limit rows i = (t : Ty) × Reads rows never i t × (type_nodes t ≤ limit)

abbrev pub AreReadable : ℕ → ℕ → List Row → Verdict → Type 0
AreReadable limit parts rows verdict.One = (i : ℕ) → i < parts → IsReadable limit rows i
AreReadable limit parts rows v = Unit {0}

-- unless it has no typing, the table has one whose open parts are all numbers
abbrev pub HasNumbered : ℕ → List Row → Verdict → Type 0
HasNumbered limit rows verdict.Nothing = Unit {0}
HasNumbered limit rows v = (s : Typing) × IsTyping limit rows s × ((k : ℕ) → row_at rows k ≡ row.Open → s k ≡ Int)

-- the type that the table says, or that it says none so small
abbrev pub TellsOf : List Row → ℕ → ℕ → Result (Option Ty) AllocError → Type 0
TellsOf rows i limit (Ok (Some t)) = Reads rows never i t × (type_nodes t ≤ limit)
TellsOf rows i limit (Ok None) = IsReadable limit rows i → ⊥
TellsOf rows i limit (Err e) = Unit {0}
