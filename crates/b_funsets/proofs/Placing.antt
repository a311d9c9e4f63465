-- The places 1, 2, .. n ascend, are values, and are no more than a set of n members.
use Rattle.std.proofs.Common.{◌≡◌, ℕ, zero, suc, ◌+◌, ◌≤◌, ◌<◌, pos, [], ◌∷◌, map, length, sum, arith, refl, sym, ap, ◌∙◌, subst, inl, inr}
use Rattle.std.specs.declared.cmp.Ordering.TheVariants.{Less}
use Rattle.std.specs.Ordering.{int_cmp}
use Rattle.std.specs.Cmp.{int_cmp_is}
use Rattle.std.specs.Prelude.{◌<ℤ◌}
use Rattle.std.proofs.lemmas.Int.{ints}
use Rattle.std.specs.List.{AllByRecursion}
use Rattle.ascending.specs.Ascending.{In, IsAscending}
use Rattle.ascending.specs.Members.{all_append, in_push}
use Rattle.ascending.specs.AscendingLaws.{ascending_none, ascending_push}
use Rattle.b_values.specs.OrderLaws.{layers_cmp, cmp_out}
use Rattle.b_values.specs.SizeLaws.{count_at, count-Set, count-Int}
use Rattle.b_values.specs.Values.{elements, members_of, node_count, count_layer, value_cmp, IsValue, IsKept}
use Rattle.b_values.specs.ValueLaws.{is_int, is_set}
use Rattle.b_values.specs.declared.values.Value.{Value, out-Value, map-Value}
use Rattle.b_values.specs.declared.values.Value.TheOpen.{Value-F}
use Rattle.b_values.specs.declared.values.Value.TheVariants.{Int, Set, outs-Int}
use Rattle.set_making.specs.Sums.{map_cons_sum, map_append_sum, length_below_sum}
use Rattle.b_funsets.specs.Arrangements.{places}
use Rattle.b_funsets.proofs.SubsetSizes.{node_positive}

cmp-Int : (m n : ℕ) → value_cmp (Int (pos m)) (Int (pos n)) ≡ int_cmp (pos m) (pos n)
cmp-Int m n = cmp_out (Int (pos m)) (Int (pos n)) ∙ ap (λ l. layers_cmp l (out-Value (Int (pos n)))) (outs-Int (pos m)) ∙ ap (layers_cmp (Value-F.Int (pos m))) (outs-Int (pos n))

-- a place up to n
pub record IsPlace (n : ℕ) (z : Value) : Type 0 where
  pub number : ℕ
  pub is : z ≡ Int (pos number)
  pub within : number ≤ n

pub place_from : (n : ℕ) (z : Value) → In z (places n) → IsPlace n z
place_from zero z h = absurd h
place_from (suc n) z h = elim ((in_push z (places n) (Int (pos (suc n)))).0 h) [
  | inl m ↦ (let p = place_from n z m in record { number = p.number; is = p.is; within = (let w = p.within in omega arith) })
  | inr e ↦ record { number = suc n; is = e; within = omega arith }
]

below : (m n : ℕ) → m < n → int_cmp (pos m) (pos n) ≡ Less
below m n h = sym (int_cmp_is (pos m) (pos n) Less (let k : pos m <ℤ pos n = omega (arith, ints) in k))

pub places_ascend : (n : ℕ) → IsAscending value_cmp (places n)
places_ascend zero = ascending_none value_cmp
places_ascend (suc n) = ascending_push value_cmp (places n) (Int (pos (suc n))) (places_ascend n) (λ z h. let p = place_from n z h in
    subst (λ w. value_cmp w (Int (pos (suc n))) ≡ Less) (sym p.is) (cmp-Int p.number (suc n) ∙ below p.number (suc n) (let w = p.within in omega arith)))

pub places_are_values : (n : ℕ) → AllByRecursion IsValue (places n)
places_are_values zero = tt
places_are_values (suc n) = all_append IsValue (places n) (Int (pos (suc n)) ∷ []) (places_are_values n) (is_int (pos (suc n)), tt)

places_total : (n : ℕ) → sum (map node_count (places n)) ≡ n
places_total zero = refl
places_total (suc n) = omega (arith, places_total n, map_append_sum node_count (places n) (Int (pos (suc n)) ∷ []), map_cons_sum node_count (Int (pos (suc n))) [], count-Int (pos (suc n)))

layer_room : (x : Value-F Value) → 1 + length (members_of x) ≤ count_layer (map-Value Value ℕ node_count x)
layer_room (Value-F.Int n) = omega arith
layer_room (Value-F.Truth b) = omega arith
layer_room (Value-F.Text s) = omega arith
layer_room (Value-F.Elem s i) = omega arith
layer_room (Value-F.Pair a b) = omega arith
layer_room (Value-F.Set xs) = omega (arith, length_below_sum node_count node_positive xs)

-- a set has more nodes than members
pub room : (v : Value) → 1 + length (elements v) ≤ node_count v
room v = rw (count_at v (out-Value v) refl) (layer_room (out-Value v))

-- the places up to the number of members of a kept set are kept
pub places_kept : (s : Value) (n : ℕ) → IsKept s → n ≤ length (elements s) → IsKept (Set (places n))
places_kept s n k l = record {
  value = is_set (places n) (places_ascend n) (places_are_values n);
  size = (let w = k.size in omega (arith, count-Set (places n), places_total n, room s));
}
