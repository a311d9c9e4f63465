-- The number of nodes at each kind.
use Rattle.std.proofs.Common.{◌≡◌, ◌≤◌, arith, ℕ, ℤ, Bool, ◌+◌, List, map, sum, refl, ap, ◌∙◌}
use Rattle.b_values.specs.Values.{node_count, count_layer, elements, members_of}
use Rattle.b_values.specs.declared.values.Value.{Value, out-Value, map-Value, fold_out-Value}
use Rattle.b_values.specs.declared.values.Value.TheOpen.{Value-F}
use Rattle.b_values.specs.declared.values.Value.TheVariants.{Int, Truth, Text, Elem, Pair, Set, outs-Int, outs-Truth, outs-Text, outs-Elem, outs-Set, outs-Pair}

-- a value's nodes, from what its layer is
pub count_at : (v : Value) (x : Value-F Value) → out-Value v ≡ x → node_count v ≡ count_layer (map-Value Value ℕ node_count x)
count_at v x e = fold_out-Value ℕ count_layer v ∙ ap (λ y. count_layer (map-Value Value ℕ node_count y)) e

pub count-Pair : (a b : Value) → node_count (Pair a b) ≡ 1 + node_count a + node_count b
count-Pair a b = count_at _ _ (outs-Pair a b)

pub count-Set : (xs : List Value) → node_count (Set xs) ≡ 1 + sum (map node_count xs)
count-Set xs = count_at _ _ (outs-Set xs)

layer_counts : (x : Value-F Value) → sum (map node_count (members_of x)) ≤ count_layer (map-Value Value ℕ node_count x)
layer_counts (Value-F.Int n) = omega arith
layer_counts (Value-F.Truth b) = omega arith
layer_counts (Value-F.Text s) = omega arith
layer_counts (Value-F.Elem s i) = omega arith
layer_counts (Value-F.Pair a b) = omega arith
layer_counts (Value-F.Set xs) = omega arith

-- a set's members have fewer nodes than it
pub count-elements : (v : Value) → sum (map node_count (elements v)) ≤ node_count v
count-elements v = rw (count_at v (out-Value v) refl) (layer_counts (out-Value v))

pub count-Int : (n : ℤ) → node_count (Int n) ≡ 1
count-Int n = count_at _ _ (outs-Int n)

pub count-Truth : (b : Bool) → node_count (Truth b) ≡ 1
count-Truth b = count_at _ _ (outs-Truth b)

pub count-Text : (s : List ℕ) → node_count (Text s) ≡ 1
count-Text s = count_at _ _ (outs-Text s)

pub count-Elem : (set index : ℕ) → node_count (Elem set index) ≡ 1
count-Elem set index = count_at _ _ (outs-Elem set index)
