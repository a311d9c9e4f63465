-- What `IsValue` says at each kind, and which sets are values.
use borrow.Author.Tests.{leb-true}
use Rattle.std.proofs.Common.{◌≡◌, ℕ, ℤ, Bool, true, false, List, refl, ap, subst}
use Rattle.std.specs.Prelude.{nat_le, if◌then◌else◌, Result, Ok, Err}
use Rattle.std.specs.List.{AllByRecursion}
use Rattle.ascending.specs.Ascending.{IsAscending, set_of}
use Rattle.ascending.specs.Members.{all_in, all_from}
use Rattle.ascending.specs.AscendingLaws.{ascending_none, in_set_of, set_of_ascends}
use Rattle.b_values.specs.Layers.{Below, lift, unlift}
use Rattle.b_values.specs.OrderLaws.{value_total, value_same}
use Rattle.b_values.specs.Values.{IsValue, IsKept, LayerAscends, value_cmp, node_count, limited, elements, members_of}
use Rattle.b_values.specs.declared.values.FaultKind.{FaultKind}
use Rattle.b_values.specs.declared.values.FaultKind.TheVariants.{TooLarge}
use Rattle.b_values.specs.declared.values.Value.{Value, out-Value, roll-Value, every_here-Value, every_held-Value, every_made-Value}
use Rattle.b_values.specs.declared.values.Value.TheOpen.{Value-F}
use Rattle.b_values.specs.declared.values.Value.TheVariants.{Int, Truth, Text, Elem, Pair, Set, outs-Set, outs-Pair, rolls-Int, rolls-Truth, rolls-Text, rolls-Elem, rolls-Pair, rolls-Set}

pub held : (v : Value) → IsValue v → Below IsValue (out-Value v)
held v h = unlift IsValue (out-Value v) (every_held-Value LayerAscends v h)

pub made : (x : Value-F Value) → Below IsValue x → LayerAscends x → IsValue (roll-Value x)
made x k a = let r = lift IsValue x k in every_made-Value LayerAscends x r.0 r.1 a

pub is_int : (n : ℤ) → IsValue (Int n)
is_int n = subst IsValue (rolls-Int n) (made (Value-F.Int n) tt tt)

pub is_truth : (b : Bool) → IsValue (Truth b)
is_truth b = subst IsValue (rolls-Truth b) (made (Value-F.Truth b) tt tt)

pub is_text : (s : List ℕ) → IsValue (Text s)
is_text s = subst IsValue (rolls-Text s) (made (Value-F.Text s) tt tt)

pub is_element : (set index : ℕ) → IsValue (Elem set index)
is_element set index = subst IsValue (rolls-Elem set index) (made (Value-F.Elem set index) tt tt)

pub is_couple : (a b : Value) → IsValue a → IsValue b → IsValue (Pair a b)
is_couple a b h k = subst IsValue (rolls-Pair a b) (made (Value-F.Pair a b) (h, k) tt)

pub is_set : (xs : List Value) → IsAscending value_cmp xs → AllByRecursion IsValue xs → IsValue (Set xs)
is_set xs a k = subst IsValue (rolls-Set xs) (made (Value-F.Set xs) k a)

pub couple_parts : (a b : Value) → IsValue (Pair a b) → IsValue a × IsValue b
couple_parts a b h = subst (Below IsValue) (outs-Pair a b) (held (Pair a b) h)

pub set_members : (xs : List Value) → IsValue (Set xs) → AllByRecursion IsValue xs
set_members xs h = subst (Below IsValue) (outs-Set xs) (held (Set xs) h)

pub set_ascends : (xs : List Value) → IsValue (Set xs) → IsAscending value_cmp xs
set_ascends xs h = subst LayerAscends (outs-Set xs) (every_here-Value LayerAscends (Set xs) h)

pub elements-Set : (xs : List Value) → elements (Set xs) ≡ xs
elements-Set xs = ap members_of (outs-Set xs)

layer_parts : (x : Value-F Value) → Below IsValue x → AllByRecursion IsValue (members_of x)
layer_parts (Value-F.Int n) k = tt
layer_parts (Value-F.Truth b) k = tt
layer_parts (Value-F.Text s) k = tt
layer_parts (Value-F.Elem s i) k = tt
layer_parts (Value-F.Pair a b) k = tt
layer_parts (Value-F.Set xs) k = k

layer_rises : (x : Value-F Value) → LayerAscends x → IsAscending value_cmp (members_of x)
layer_rises (Value-F.Int n) k = ascending_none value_cmp
layer_rises (Value-F.Truth b) k = ascending_none value_cmp
layer_rises (Value-F.Text s) k = ascending_none value_cmp
layer_rises (Value-F.Elem s i) k = ascending_none value_cmp
layer_rises (Value-F.Pair a b) k = ascending_none value_cmp
layer_rises (Value-F.Set xs) k = k

pub elements_are_values : (v : Value) → IsValue v → AllByRecursion IsValue (elements v)
elements_are_values v h = layer_parts (out-Value v) (held v h)

pub elements_ascend : (v : Value) → IsValue v → IsAscending value_cmp (elements v)
elements_ascend v h = layer_rises (out-Value v) (every_here-Value LayerAscends v h)

-- the set with the members of a list of values is a value
pub set_of_values : (xs : List Value) → AllByRecursion IsValue xs → IsValue (Set (set_of value_cmp xs))
set_of_values xs k = is_set (set_of value_cmp xs) (set_of_ascends value_cmp value_total value_same xs)
    (all_from IsValue (set_of value_cmp xs) (λ z m. all_in IsValue xs k z ((in_set_of value_cmp value_total value_same z xs).0 m)))

-- a value that passed the limit may be kept
pub limited_kept : (v w : Value) → IsValue v → limited v ≡ Ok w → IsKept w
limited_kept v w h e = go (nat_le (node_count v) 1000000) refl e
  where
    go : (b : Bool) → nat_le (node_count v) 1000000 ≡ b → ◌≡◌ {A = Result Value FaultKind} (if b then Ok v else Err TooLarge) (Ok w) → IsKept w
    go true f g = let same : v ≡ w = cc in subst IsKept same (record { value = h; size = leb-true (node_count v) 1000000 f })
    go false f g = absurd (cc)
