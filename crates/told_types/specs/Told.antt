-- What a table tells of the types of parts.
use Rattle.std.specs.Prelude.{ℕ, zero, suc, Bool, true, false, List, length}
use Rattle.b_values.specs.declared.types.Ty.{Ty}
use Rattle.b_values.specs.declared.types.Ty.TheVariants.{Int, Pair, Set}
use Rattle.type_table.specs.declared.rows.Row.{Row}
use Rattle.type_table.specs.declared.rows.Row.TheVariants as row
use Rattle.type_table.specs.Tables.{row_at}
use Rattle.type_table.specs.Types.{basic_type}

-- a link leads to the part that it names
abbrev pub past_link : (ℕ → Row) → Row → Row
past_link go (row.Same j) = go j
past_link go r = r

-- the row behind the links of a part, in so many steps; nothing is told behind them
abbrev pub row_within : List Row → ℕ → ℕ → Row
row_within rows zero i = row.Open
row_within rows (suc n) i = past_link (row_within rows n) (row_at rows i)

-- a link goes back, so that no part has more of them than there are rows
abbrev pub row_of : List Row → ℕ → Row
row_of rows i = row_within rows (length rows) i

abbrev pub is_set_row : Row → Bool
is_set_row (row.Set j) = true
is_set_row r = false

abbrev pub is_set : List Row → ℕ → Bool
is_set rows i = is_set_row (row_of rows i)

-- the type that a row says, by those of the parts that it names; a part of which nothing is told counts as a number
abbrev pub row_type : (ℕ → Ty) → Row → Ty
row_type of (row.Set j) = Set (of j)
row_type of (row.Pair j k) = Pair (of j) (of k)
row_type of (row.Basic b) = basic_type b
row_type of r = Int

-- the type of a part, so many types deep
abbrev pub type_within : List Row → ℕ → ℕ → Ty
type_within rows zero i = Int
type_within rows (suc n) i = row_type (type_within rows n) (row_of rows i)

-- a type has at most 500 nodes, and so at most as many that stand in one another
unfoldable pub type_at : List Row → ℕ → Ty
type_at rows i = type_within rows 500 i
