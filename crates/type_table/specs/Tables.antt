-- A table has a row for each part of a text, and says what is known of the part's type. It is a set of equations.
use Rattle.std.specs.Prelude.{◌≡◌, ◌≤◌, ◌<◌, ℕ, List, length, get_or, Option, Some}
use Rattle.b_values.specs.declared.types.Ty.{Ty}
use Rattle.b_values.specs.declared.types.Ty.TheVariants.{Pair, Set}
use Rattle.type_table.specs.declared.rows.Basic.{Basic}
use Rattle.type_table.specs.declared.rows.Row.{Row}
use Rattle.type_table.specs.declared.rows.Row.TheVariants as row
use Rattle.type_table.specs.Types.{basic_type}

-- a type for each part
abbrev pub Typing : Type 0
Typing = ℕ → Ty

-- the type is as the row says
abbrev pub Fits : Typing → Ty → Row → Type 0
Fits s t row.Open = Unit {0}
Fits s t (row.Basic b) = t ≡ basic_type b
Fits s t (row.Set j) = t ≡ Set (s j)
Fits s t (row.Pair j k) = t ≡ Pair (s j) (s k)
Fits s t (row.Same j) = t ≡ s j

-- a part's row; nothing is known of what has no row
abbrev pub row_at : List Row → ℕ → Row
row_at rows i = get_or rows i row.Open

-- the typing is a solution of the table
unfoldable pub Solves : Typing → List Row → Type 0
Solves s rows = (i : ℕ) → Fits s (s i) (row_at rows i)

-- the row i names rows of the table, and a link goes back
abbrev pub IsRow : ℕ → ℕ → Row → Type 0
IsRow count i row.Open = Unit {0}
IsRow count i (row.Basic b) = Unit {0}
IsRow count i (row.Set j) = j < count
IsRow count i (row.Pair j k) = (j < count) × (k < count)
IsRow count i (row.Same j) = j < i

unfoldable pub IsTable : List Row → Type 0
IsTable rows = (i : ℕ) → IsRow (length rows) i (row_at rows i)

-- the row is no link
abbrev pub IsRoot : Row → Type 0
IsRoot (row.Same j) = ⊥
IsRoot r = Unit {0}

-- the type that a table says of a part, where `d` gives the types of open parts, if they have one
pub data Reads (rows : List Row) (d : ℕ → Option Ty) : ℕ → Ty → Type 0 where
  open_part : {i : ℕ} (t : Ty) → row_at rows i ≡ row.Open → d i ≡ Some t → Reads rows d i t
  basic_part : {i : ℕ} (b : Basic) → row_at rows i ≡ row.Basic b → Reads rows d i (basic_type b)
  set_part : {i : ℕ} (j : ℕ) (t : Ty) → row_at rows i ≡ row.Set j → Reads rows d j t → Reads rows d i (Set t)
  pair_part : {i : ℕ} (j k : ℕ) (t u : Ty) → row_at rows i ≡ row.Pair j k → Reads rows d j t → Reads rows d k u → Reads rows d i (Pair t u)
  same_part : {i : ℕ} (j : ℕ) (t : Ty) → row_at rows i ≡ row.Same j → Reads rows d j t → Reads rows d i t

-- the part k stands in a part's type
pub data Occurs (rows : List Row) (k : ℕ) : ℕ → Type 0 where
  here : Occurs rows k k
  in_set : {i : ℕ} (j : ℕ) → row_at rows i ≡ row.Set j → Occurs rows k j → Occurs rows k i
  in_first : {i : ℕ} (j l : ℕ) → row_at rows i ≡ row.Pair j l → Occurs rows k j → Occurs rows k i
  in_second : {i : ℕ} (j l : ℕ) → row_at rows i ≡ row.Pair j l → Occurs rows k l → Occurs rows k i
  in_same : {i : ℕ} (j : ℕ) → row_at rows i ≡ row.Same j → Occurs rows k j → Occurs rows k i

-- where a part's links end: a part with a row of its own, which has the same type
pub record EndsAt (rows : List Row) (i end : ℕ) : Type 0 where
  pub back : end ≤ i
  pub root : IsRoot (row_at rows end)
  pub same : (s : Typing) → Solves s rows → s i ≡ s end
  pub reads : (d : ℕ → Option Ty) (t : Ty) → Reads rows d end t → Reads rows d i t
  pub read : (d : ℕ → Option Ty) (t : Ty) → Reads rows d i t → Reads rows d end t
  pub occurs : (k : ℕ) → Occurs rows k end → Occurs rows k i
