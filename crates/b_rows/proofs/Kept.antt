-- What the operators make may be kept.
use Rattle.std.proofs.Common.{◌≡◌, ◌↔◌, ◌<◌, ◌+◌, ℕ, zero, suc, ℤ, pos, map, drop, length, get_or, append_assoc, length-append, List, [], ◌∷◌, ◌++◌, Result, Ok, Err, Option, Some, None, arith, refl, sym, ap, ◌∙◌, subst, Bool, true, false}
use Rattle.std.specs.Prelude.{IfOk, IsTrue, filter, is_some}
use Rattle.std.specs.List.{AllByRecursion, flat_map, range_with_len}
use Rattle.ascending.specs.Ascending.{In, IsAscending}
use Rattle.ascending.specs.Members.{all_in}
use Rattle.b_sequences.specs.Sequences.{as_sequence, IsSequence}
use Rattle.b_sequences.specs.SequenceLaws.{as_sequence_sound, as_sequence_complete, is_sequence_value}
use Rattle.b_values.specs.Reading.{numbered}
use Rattle.b_values.specs.SizeLaws.{count-Int}
use Rattle.b_values.specs.ValueLaws.{is_int, is_truth, is_element, is_couple, limited_kept, elements_ascend, elements_are_values, set_members}
use Rattle.b_values.specs.Values.{IsKept, IsValue, elements, limited, value_cmp}
use Rattle.b_values.specs.declared.values.Value.{Value}
use Rattle.b_values.specs.declared.values.Value.TheVariants.{Int, Truth, Elem, Pair}
use Rattle.set_making.specs.ListMembers.{all_filter, all_flat_map}
use Rattle.set_making.specs.Making.{Answers, set_with}
use Rattle.set_making.specs.MakingLaws.{set_with_kept}
use Rattle.set_making.specs.MergePlaces.{rest_at}
use Rattle.set_making.specs.declared.OpFault.{OpFault}
use Rattle.set_making.specs.declared.OpFault.TheVariants.{Fault, Memory}

pub kept_int : (n : ℤ) → IsKept (Int n)
kept_int n = record { value = is_int n; size = omega (arith, count-Int n) }

pub kept_set : (v : Value) (xs : List Value) → set_with xs ≡ Ok v → AllByRecursion IsValue xs → IsKept v
kept_set v xs e k = set_with_kept xs v k e

pub kept_pair : (r : Result Value OpFault) (x y v : Value) → v ≡ Pair x y → Answers (limited v) r → IsKept x → IsKept y → IfOk r (λ w. IsKept w)
kept_pair (Ok w) x y v e a k l = limited_kept v w (subst IsValue (sym e) (is_couple x y k.value l.value)) a
kept_pair (Err f) x y v e a k l = tt

pub members_rise : (v : Value) (xs : List Value) → xs ≡ elements v → IsKept v → IsAscending value_cmp xs
members_rise v xs e k = subst (IsAscending value_cmp) (sym e) (elements_ascend v k.value)

pub truths_are_values : (vs : List Value) → vs ≡ Truth false ∷ Truth true ∷ [] → AllByRecursion IsValue vs
truths_are_values vs e = subst (λ (l : List Value). AllByRecursion IsValue l) (sym e) (is_truth false, (is_truth true, tt))

pub elements_are_values_of : (set : ℕ) (is : List ℕ) → AllByRecursion IsValue (map (λ i. Elem set i) is)
elements_are_values_of set [] = tt
elements_are_values_of set (i ∷ is) = (is_element set i, elements_are_values_of set is)

pub elements_are_kept : (set size : ℕ) (vs : List Value) → vs ≡ map (λ i. Elem set i) (range_with_len 0 size) → AllByRecursion IsValue vs
elements_are_kept set size vs e = subst (λ (l : List Value). AllByRecursion IsValue l) (sym e) (elements_are_values_of set (range_with_len 0 size))

abbrev with_element : ℕ → List Value → ℕ → List Value
with_element set l i = l ++ Elem set i ∷ []

abbrev elements_from : ℕ → ℕ → ℕ → List Value
elements_from set a n = map (λ i. Elem set i) (range_with_len a n)

elements_end : (set a n : ℕ) → elements_from set a (suc n) ≡ with_element set (elements_from set a n) (a + n)
elements_end set a zero = let e : a ≡ a + 0 = omega arith in ap (with_element set []) e
elements_end set a (suc n) =
    let e : (a + 1) + n ≡ a + suc n = omega arith in
    ap (λ (l : List Value). Elem set a ∷ l) (elements_end set (a + 1) n ∙ ap (with_element set (elements_from set (a + 1) n)) e)

-- one more element of a set of the machine
pub one_more_element : (set k : ℕ) (found more : List Value) (v : Value) → found ≡ map (λ i. Elem set i) (range_with_len 0 k) → v ≡ Elem set k → more ≡ found ++ v ∷ [] → more ≡ map (λ i. Elem set i) (range_with_len 0 (k + 1))
one_more_element set k found more v e f g =
    let one : suc k ≡ k + 1 = omega arith in
    let none : 0 + k ≡ k = omega arith in
    g ∙ ap (λ (x : Value). found ++ x ∷ []) f ∙ ap (λ (l : List Value). with_element set l k) e
    ∙ sym (elements_end set 0 k ∙ ap (with_element set (elements_from set 0 k)) none)
    ∙ ap (elements_from set 0) one

pub members_are_values : (sets vs : List Value) → vs ≡ flat_map elements sets → AllByRecursion IsValue sets → AllByRecursion IsValue vs
members_are_values sets vs e k = subst (λ (l : List Value). AllByRecursion IsValue l) (sym e) (all_flat_map IsValue elements sets (λ x h. elements_are_values x (all_in IsValue sets k x h)))

pub numbered_values : (xs vs : List Value) → vs ≡ numbered 1 xs → AllByRecursion IsValue xs → AllByRecursion IsValue vs
numbered_values xs vs e k = subst (λ (l : List Value). AllByRecursion IsValue l) (sym e) (set_members (numbered 1 xs) (is_sequence_value xs k))

-- one more couple with the next number
pub one_more_numbered : (vs out more : List Value) (i : ℕ) (v : Value) → i < length vs → v ≡ get_or vs i v
    → out ++ numbered (length out + 1) (drop i vs) ≡ numbered 1 vs → more ≡ out ++ Pair (Int (pos (length out + 1))) v ∷ [] → more ++ numbered (length more + 1) (drop (i + 1) vs) ≡ numbered 1 vs
one_more_numbered vs out more i v h e state g =
    ap (λ (l : List Value). l ++ numbered (length more + 1) (drop (i + 1) vs)) g
    ∙ append_assoc out (Pair (Int (pos (length out + 1))) v ∷ []) (numbered (length more + 1) (drop (i + 1) vs))
    ∙ ap (λ (n : ℕ). out ++ Pair (Int (pos (length out + 1))) v ∷ numbered n (drop (i + 1) vs)) size
    ∙ sym (ap (λ (l : List Value). out ++ numbered (length out + 1) l) (rest_at vs i v h e))
    ∙ state
  where
    size : length more + 1 ≡ (length out + 1) + 1
    size = let m = ap (λ (l : List Value). length l) g in let a = length-append out (Pair (Int (pos (length out + 1))) v ∷ []) in omega (arith, m, a)

pub filtered_values : (p : Value → Bool) (xs vs : List Value) → vs ≡ filter p xs → AllByRecursion IsValue xs → AllByRecursion IsValue vs
filtered_values p xs vs e k = subst (λ (l : List Value). AllByRecursion IsValue l) (sym e) (all_filter IsValue p xs k)

-- the test of a sequence by its two laws
pub sequence_test : (v : Value) (b : Bool) → (IsTrue b ↔ IsSequence v) → b ≡ is_some (as_sequence v)
sequence_test v b same = go (as_sequence v) refl
  where
    go : (o : Option (List Value)) → as_sequence v ≡ o → b ≡ is_some o
    go (Some xs) e = same.1 (xs, as_sequence_sound v xs e)
    go None e = no b refl
      where
        no : (c : Bool) → b ≡ c → c ≡ false
        no false f = refl
        no true f = (let s = same.0 f in let g = as_sequence_complete v s.0 s.1 in cc)
