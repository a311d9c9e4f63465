-- What the operators on sequences answer may be kept, where their operands may be.
use Rattle.std.proofs.Common.{◌≡◌, ℕ, zero, suc, ◌+◌, ◌-◌, pos, Bool, true, false, List, [], ◌∷◌, ◌++◌, length, take, drop, Option, Some, None, Result, Ok, Err, arith, refl, sym, ap, ◌∙◌, subst}
use Rattle.std.specs.Prelude.{slice_get, if◌then◌else◌, reverse, IfOk, unwrap_or, option_and_then}
use Rattle.std.specs.Option.{option_map}
use Rattle.std.specs.List.{AllByRecursion, list_all, flat_map}
use Rattle.std.proofs.lemmas.List.{take-append-drop, reverse-append}
use Rattle.ascending.specs.Members.{all_append, all_front, all_back}
use Rattle.b_values.specs.SizeLaws.{count-Int}
use Rattle.b_values.specs.ValueLaws.{is_int, limited_kept}
use Rattle.b_values.specs.Values.{IsValue, IsKept, node_count}
use Rattle.b_values.specs.declared.values.FaultKind.{FaultKind}
use Rattle.b_values.specs.declared.values.Value.{Value, out-Value}
use Rattle.b_values.specs.declared.values.Value.TheVariants.{Int}
use Rattle.set_making.specs.declared.OpFault.{OpFault}
use Rattle.set_making.specs.Making.{Answers}
use Rattle.b_sequences.specs.Sequences.{sequence_of, as_sequence}
use Rattle.b_sequences.specs.SequenceLaws.{is_sequence_value, sequence_values, as_sequence_sound, count-sequence, weight, count-element}
use Rattle.b_sequences.specs.Rows.{sequence_answer, value_answer, size_row, rev_row, first_row, last_row, all_but_last, front_row, all_but_first, tail_row, concat_row, prepend_row, append_row, number_within, take_row, drop_first_row, is_sequence, list_of, joined, conc_row}

-- what answers a row may be kept where the row's value may be
pub answer_kept : (row : Result Value FaultKind) (r : Result Value OpFault) → ((v : Value) → row ≡ Ok v → IsKept v) → Answers row r → IfOk r (λ v. IsKept v)
answer_kept row (Ok v) k a = k v a
answer_kept row (Err e) k a = tt

-- ---- lists of values

abbrev Values : List Value → Type 0
Values xs = AllByRecursion IsValue xs

values_reverse : (xs : List Value) → Values xs → Values (reverse xs)
values_reverse [] k = tt
values_reverse (x ∷ xs) k = subst Values (sym (reverse-append (x ∷ []) xs)) (all_append IsValue (reverse xs) (x ∷ []) (values_reverse xs k.1) (k.0, tt))

values_take : (n : ℕ) (xs : List Value) → Values xs → Values (take n xs)
values_take n xs k = all_front IsValue (take n xs) (drop n xs) (subst Values (sym (take-append-drop n xs)) k)

values_drop : (n : ℕ) (xs : List Value) → Values xs → Values (drop n xs)
values_drop n xs k = all_back IsValue (take n xs) (drop n xs) (subst Values (sym (take-append-drop n xs)) k)

-- the list of a sequence is one of values
list_values : (s : Value) (xs : List Value) → IsValue s → as_sequence s ≡ Some xs → Values xs
list_values s xs h e = sequence_values xs (subst IsValue (as_sequence_sound s xs e) h)

listed_values : (vs : List Value) → Values vs → Values (flat_map list_of vs)
listed_values [] k = tt
listed_values (v ∷ vs) k = all_append IsValue (list_of v) (flat_map list_of vs) (go (as_sequence v) refl) (listed_values vs k.1)
  where
    go : (o : Option (List Value)) → as_sequence v ≡ o → Values (unwrap_or o [])
    go None e = tt
    go (Some xs) e = list_values v xs k.0 e

-- ---- rows with a list

sequence_kept : (o : Option (List Value)) (v : Value) → ((xs : List Value) → o ≡ Some xs → Values xs) → sequence_answer o ≡ Ok v → IsKept v
sequence_kept None v k e = absurd (cc)
sequence_kept (Some xs) v k e = limited_kept (sequence_of xs) v (is_sequence_value xs (k xs refl)) e

-- a list that is made of the list of a sequence
with_list : (f : List Value → Option (List Value)) (s : Value) → IsValue s → ((xs ys : List Value) → Values xs → f xs ≡ Some ys → Values ys) → (ys : List Value) → option_and_then f (as_sequence s) ≡ Some ys → Values ys
with_list f s h k ys e = go (as_sequence s) refl e
  where
    go : (o : Option (List Value)) → as_sequence s ≡ o → option_and_then f o ≡ Some ys → Values ys
    go None g e = absurd (cc)
    go (Some xs) g e = k xs ys (list_values s xs h g) e

mapped_list : (f : List Value → List Value) (s : Value) → IsValue s → ((xs : List Value) → Values xs → Values (f xs)) → (ys : List Value) → option_map f (as_sequence s) ≡ Some ys → Values ys
mapped_list f s h k ys e = go (as_sequence s) refl e
  where
    go : (o : Option (List Value)) → as_sequence s ≡ o → option_map f o ≡ Some ys → Values ys
    go None g e = absurd (cc)
    go (Some xs) g e = let same : f xs ≡ ys = cc in subst Values same (k xs (list_values s xs h g))

pub rev_kept : (s v : Value) → IsKept s → rev_row s ≡ Ok v → IsKept v
rev_kept s v h = sequence_kept _ v (mapped_list reverse s h.value values_reverse)

but_last_values : (xs ys : List Value) → Values xs → all_but_last xs ≡ Some ys → Values ys
but_last_values [] ys k e = absurd (cc)
but_last_values (x ∷ xs) ys k e = let same : take (length xs) (x ∷ xs) ≡ ys = cc in subst Values same (values_take (length xs) (x ∷ xs) k)

pub front_kept : (s v : Value) → IsKept s → front_row s ≡ Ok v → IsKept v
front_kept s v h = sequence_kept _ v (with_list all_but_last s h.value but_last_values)

but_first_values : (xs ys : List Value) → Values xs → all_but_first xs ≡ Some ys → Values ys
but_first_values [] ys k e = absurd (cc)
but_first_values (x ∷ xs) ys k e = let same : xs ≡ ys = cc in subst Values same k.1

pub tail_kept : (s v : Value) → IsKept s → tail_row s ≡ Ok v → IsKept v
tail_kept s v h = sequence_kept _ v (with_list all_but_first s h.value but_first_values)

pub concat_kept : (s t v : Value) → IsKept s → IsKept t → concat_row s t ≡ Ok v → IsKept v
concat_kept s t v h k = sequence_kept _ v (with_list (λ xs. option_map (λ ys. xs ++ ys) (as_sequence t)) s h.value
    (λ xs zs m. mapped_list (λ ys. xs ++ ys) t k.value (λ ys n. all_append IsValue xs ys m n) zs))

pub prepend_kept : (x s v : Value) → IsKept x → IsKept s → prepend_row x s ≡ Ok v → IsKept v
prepend_kept x s v h k = sequence_kept _ v (mapped_list (λ xs. x ∷ xs) s k.value (λ xs m. (h.value, m)))

pub append_kept : (s x v : Value) → IsKept s → IsKept x → append_row s x ≡ Ok v → IsKept v
append_kept s x v h k = sequence_kept _ v (mapped_list (λ xs. xs ++ x ∷ []) s h.value (λ xs m. all_append IsValue xs (x ∷ []) m (k.value, tt)))

-- a list that is made of another and a number
cut_values : (f : ℕ → List Value → List Value) → ((k : ℕ) (xs : List Value) → Values xs → Values (f k xs)) → (o : Option ℕ) (xs ys : List Value) → Values xs → option_map (λ k. f k xs) o ≡ Some ys → Values ys
cut_values f k None xs ys m e = absurd (cc)
cut_values f k (Some n) xs ys m e = let same : f n xs ≡ ys = cc in subst Values same (k n xs m)

pub take_kept : (s n v : Value) → IsKept s → take_row s n ≡ Ok v → IsKept v
take_kept s n v h = sequence_kept _ v (with_list (λ xs. option_map (λ k. take k xs) (number_within (length xs) (out-Value n))) s h.value
    (λ xs ys m. cut_values take values_take (number_within (length xs) (out-Value n)) xs ys m))

pub drop_first_kept : (s n v : Value) → IsKept s → drop_first_row s n ≡ Ok v → IsKept v
drop_first_kept s n v h = sequence_kept _ v (with_list (λ xs. option_map (λ k. drop k xs) (number_within (length xs) (out-Value n))) s h.value
    (λ xs ys m. cut_values drop values_drop (number_within (length xs) (out-Value n)) xs ys m))

joined_values : (vs ys : List Value) → Values vs → joined vs ≡ Some ys → Values ys
joined_values vs ys k e = go (list_all is_sequence vs) e
  where
    go : (b : Bool) → ◌≡◌ {A = Option (List Value)} (if b then Some (flat_map list_of vs) else None) (Some ys) → Values ys
    go true f = let same : flat_map list_of vs ≡ ys = cc in subst Values same (listed_values vs k)
    go false f = absurd (cc)

pub conc_kept : (s v : Value) → IsKept s → conc_row s ≡ Ok v → IsKept v
conc_kept s v h = sequence_kept _ v (with_list joined s h.value joined_values)

-- ---- rows with an element or a number

kept_int : (n : ℕ) → IsKept (Int (pos n))
kept_int n = record { value = is_int (pos n); size = omega (arith, count-Int (pos n)) }

pub size_kept : (s v : Value) → size_row s ≡ Ok v → IsKept v
size_kept s v e = go (as_sequence s) e
  where
    go : (o : Option (List Value)) → value_answer (option_map (λ xs. Int (pos (length xs))) o) ≡ Ok v → IsKept v
    go None e = absurd (cc)
    go (Some xs) e = let same : Int (pos (length xs)) ≡ v = cc in subst IsKept same (kept_int (length xs))

value_at : (i : ℕ) (xs : List Value) (x : Value) → Values xs → slice_get xs i ≡ Some x → IsValue x
value_at i [] x k e = absurd (cc)
value_at zero (y ∷ ys) x k e = let same : y ≡ x = cc in subst IsValue same k.0
value_at (suc i) (y ∷ ys) x k e = value_at i ys x k.1 e

element_kept : (i : ℕ) (s x : Value) (xs : List Value) → IsKept s → as_sequence s ≡ Some xs → slice_get xs i ≡ Some x → IsKept x
element_kept i s x xs h e f = record {
  value = value_at i xs x (list_values s xs h.value e) f;
  size = (let same : node_count s ≡ 1 + weight xs = ap node_count (as_sequence_sound s xs e) ∙ count-sequence xs in let all = h.size in omega (arith, count-element i xs x f));
}

-- the element at a place of the list of a sequence
at_kept : (f : List Value → ℕ) (s v : Value) → IsKept s → value_answer (option_and_then (λ xs. slice_get xs (f xs)) (as_sequence s)) ≡ Ok v → IsKept v
at_kept f s v h e = go (as_sequence s) refl e
  where
    some : (xs : List Value) → as_sequence s ≡ Some xs → (o : Option Value) → slice_get xs (f xs) ≡ o → value_answer o ≡ Ok v → IsKept v
    some xs g None i e = absurd (cc)
    some xs g (Some x) i e = let same : x ≡ v = cc in subst IsKept same (element_kept (f xs) s x xs h g i)

    go : (o : Option (List Value)) → as_sequence s ≡ o → value_answer (option_and_then (λ xs. slice_get xs (f xs)) o) ≡ Ok v → IsKept v
    go None g e = absurd (cc)
    go (Some xs) g e = some xs g (slice_get xs (f xs)) refl e

pub first_kept : (s v : Value) → IsKept s → first_row s ≡ Ok v → IsKept v
first_kept = at_kept (λ xs. 0)

pub last_kept : (s v : Value) → IsKept s → last_row s ≡ Ok v → IsKept v
last_kept = at_kept (λ xs. length xs - 1)
