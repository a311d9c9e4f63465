-- What evaluation makes may be kept.
use Rattle.std.proofs.Common.{◌≡◌, ℕ, ℤ, List, Bool, arith, sym, subst}
use Rattle.std.specs.List.{AllByRecursion}
use Rattle.ascending.specs.Ascending.{IsAscending}
use Rattle.b_places.specs.PlaceLaws.{couple_value}
use Rattle.b_places.specs.Places.{couple_of}
use Rattle.b_values.specs.SizeLaws.{count-Int, count-Truth, count-Text, count-Elem}
use Rattle.b_values.specs.ValueLaws.{is_int, is_truth, is_text, is_element, is_couple, elements_ascend}
use Rattle.b_values.specs.Values.{IsKept, IsValue, elements, value_cmp}
use Rattle.b_values.specs.declared.values.Value.{Value}
use Rattle.b_values.specs.declared.values.Value.TheVariants.{Int, Truth, Text, Elem, Pair}

pub kept_int : (n : ℤ) → IsKept (Int n)
kept_int n = record { value = is_int n; size = omega (arith, count-Int n) }

pub kept_truth : (b : Bool) → IsKept (Truth b)
kept_truth b = record { value = is_truth b; size = omega (arith, count-Truth b) }

pub kept_text : (s : List ℕ) → IsKept (Text s)
kept_text s = record { value = is_text s; size = omega (arith, count-Text s) }

pub kept_element : (set index : ℕ) → IsKept (Elem set index)
kept_element set index = record { value = is_element set index; size = omega (arith, count-Elem set index) }

pub members_rise : (v : Value) (xs : List Value) → xs ≡ elements v → IsKept v → IsAscending value_cmp xs
members_rise v xs e k = subst (IsAscending value_cmp) (sym e) (elements_ascend v k.value)

pub gathered_value : (tuple : List Value) (v w : Value) → w ≡ Pair (couple_of tuple) v → AllByRecursion IsKept tuple → IsKept v → IsValue w
gathered_value tuple v w e t k = subst IsValue (sym e) (is_couple (couple_of tuple) v (couple_value tuple t) k.value)
