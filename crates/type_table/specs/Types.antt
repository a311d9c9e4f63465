-- How many nodes a type has, and the types without parts.
use Rattle.std.specs.Prelude.{ℕ, ◌+◌}
use Rattle.b_values.specs.declared.types.Ty.{Ty, fold-Ty}
use Rattle.b_values.specs.declared.types.Ty.TheOpen.{Ty-F}
use Rattle.b_values.specs.declared.types.Ty.TheVariants.{Int, Truth, Text, Elem}
use Rattle.type_table.specs.declared.rows.Basic.{Basic}
use Rattle.type_table.specs.declared.rows.Basic.TheVariants as basic

-- one node, and those of the parts
abbrev pub nodes_layer : Ty-F ℕ → ℕ
nodes_layer Ty-F.Int = 1
nodes_layer Ty-F.Truth = 1
nodes_layer Ty-F.Text = 1
nodes_layer (Ty-F.Elem k) = 1
nodes_layer (Ty-F.Pair m n) = 1 + m + n
nodes_layer (Ty-F.Set n) = 1 + n

-- how many nodes a type has: each set, couple and type without parts is one
abbrev pub type_nodes : Ty → ℕ
type_nodes = fold-Ty ℕ nodes_layer

-- the type that a row without parts names
abbrev pub basic_type : Basic → Ty
basic_type basic.Int = Int
basic_type basic.Truth = Truth
basic_type basic.Text = Text
basic_type (basic.Elem k) = Elem k
