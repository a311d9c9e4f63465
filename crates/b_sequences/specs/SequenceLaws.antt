-- The laws of sequences and their lists.
use Rattle.std.proofs.Common.{◌≡◌, ℕ, zero, suc, ◌+◌, ◌<◌, ◌≤◌, pos, ◌<ℤ◌, Bool, true, false, List, [], ◌∷◌, ◌++◌, length, take, drop, map, sum, Option, Some, None, arith, refl, sym, ap, ◌∙◌}
use Rattle.std.specs.Prelude.{slice_get, if◌then◌else◌}
use Rattle.std.specs.Option.{option_map}
use Rattle.std.specs.Ordering.{int_cmp, ordering_then}
use Rattle.std.specs.declared.cmp.Ordering.TheVariants.{Less}
use Rattle.std.specs.List.{cons_option, AllByRecursion}
use Rattle.std.proofs.lemmas.Int.{ints}
use Rattle.std.proofs.lemmas.List.Sums.{sum_by-cons}
use Rattle.std.specs.Cmp.{int_cmp_is}
use Rattle.ascending.specs.Ascending.{IsAscending}
use Rattle.ascending.specs.AscendingLaws.{AllAbove, ascending_none, ascending_cons}
use Rattle.b_values.specs.OrderLaws.{cmp-Int, cmp-Pair}
use Rattle.b_values.specs.Reading.{numbered}
use Rattle.b_values.specs.SameLaws.{value_decides}
use Rattle.b_values.specs.SizeLaws.{count-Int, count-Pair, count-Set}
use Rattle.b_values.specs.ValueLaws.{is_int, is_couple, is_set, couple_parts, set_members, elements-Set}
use Rattle.b_values.specs.Values.{IsValue, value_cmp, same_value, node_count, elements}
use Rattle.b_values.specs.declared.values.Value.{Value}
use Rattle.b_values.specs.declared.values.Value.TheVariants.{Int, Pair, outs-Pair}
use Rattle.b_sequences.specs.Sequences.{sequence_of, second, second_of, seconds, as_sequence, IsSequence}

-- ---- numbered couples

pub second-Pair : (a b : Value) → second (Pair a b) ≡ Some b
second-Pair a b = ap second_of (outs-Pair a b)

pub seconds-numbered : (n : ℕ) (xs : List Value) → seconds (numbered n xs) ≡ xs
seconds-numbered n [] = refl
seconds-numbered n (x ∷ xs) =
    ap (λ o. cons_option o (seconds (numbered (n + 1) xs))) (second-Pair (Int (pos n)) x) ∙ ap (λ ys. x ∷ ys) (seconds-numbered (n + 1) xs)

pub length-numbered : (n : ℕ) (xs : List Value) → length (numbered n xs) ≡ length xs
length-numbered n [] = refl
length-numbered n (x ∷ xs) = ap suc (length-numbered (n + 1) xs)

pub numbered-append : (n : ℕ) (xs ys : List Value) → numbered n (xs ++ ys) ≡ numbered n xs ++ numbered (n + length xs) ys
numbered-append n [] ys = ap (λ k. numbered k ys) (let e : n ≡ n + 0 = omega arith in e)
numbered-append n (x ∷ xs) ys =
    ap (λ zs. Pair (Int (pos n)) x ∷ zs) (numbered-append (n + 1) xs ys ∙ ap (λ k. numbered (n + 1) xs ++ numbered k ys) (let e : (n + 1) + length xs ≡ n + suc (length xs) = omega arith in e))

pub take-numbered : (k n : ℕ) (xs : List Value) → take k (numbered n xs) ≡ numbered n (take k xs)
take-numbered zero n xs = refl
take-numbered (suc k) n [] = refl
take-numbered (suc k) n (x ∷ xs) = ap (λ zs. Pair (Int (pos n)) x ∷ zs) (take-numbered k (n + 1) xs)

pub drop-numbered : (k n : ℕ) (xs : List Value) → drop k (numbered n xs) ≡ numbered (n + k) (drop k xs)
drop-numbered zero n xs = ap (λ m. numbered m xs) (let e : n ≡ n + 0 = omega arith in e)
drop-numbered (suc k) n [] = refl
drop-numbered (suc k) n (x ∷ xs) = drop-numbered k (n + 1) xs ∙ ap (λ m. numbered m (drop k xs)) (let e : (n + 1) + k ≡ n + suc k = omega arith in e)

pub seconds-drop : (k n : ℕ) (xs : List Value) → seconds (drop k (numbered n xs)) ≡ drop k xs
seconds-drop k n xs = ap seconds (drop-numbered k n xs) ∙ seconds-numbered (n + k) (drop k xs)

-- what stands at a place
pub get-numbered : (i n : ℕ) (xs : List Value) → slice_get (numbered n xs) i ≡ option_map (λ x. Pair (Int (pos (n + i))) x) (slice_get xs i)
get-numbered i n [] = refl
get-numbered zero n (x ∷ xs) = ap (λ m. Some (Pair (Int (pos m)) x)) (let e : n ≡ n + 0 = omega arith in e)
get-numbered (suc i) n (x ∷ xs) = get-numbered i (n + 1) xs ∙ ap (λ m. option_map (λ y. Pair (Int (pos m)) y) (slice_get xs i)) (let e : (n + 1) + i ≡ n + suc i = omega arith in e)

-- ---- a sequence is a value

below_is_less : (m n : ℕ) → m < n → int_cmp (pos m) (pos n) ≡ Less
below_is_less m n h = sym (int_cmp_is (pos m) (pos n) Less (let k : pos m <ℤ pos n = omega (arith, ints) in k))

couples_rise : (m n : ℕ) (v w : Value) → m < n → value_cmp (Pair (Int (pos m)) v) (Pair (Int (pos n)) w) ≡ Less
couples_rise m n v w h = cmp-Pair (Int (pos m)) v (Int (pos n)) w ∙ ap (λ r. ordering_then r (value_cmp v w)) (cmp-Int (pos m) (pos n) ∙ below_is_less m n h)

numbered_above : (m n : ℕ) (v : Value) (xs : List Value) → m < n → AllAbove value_cmp (Pair (Int (pos m)) v) (numbered n xs)
numbered_above m n v [] h = tt
numbered_above m n v (x ∷ xs) h = (couples_rise m n v x h, numbered_above m (n + 1) v xs (omega arith))

pub numbered_ascends : (n : ℕ) (xs : List Value) → IsAscending value_cmp (numbered n xs)
numbered_ascends n [] = ascending_none value_cmp
numbered_ascends n (x ∷ xs) = ascending_cons value_cmp _ _ (numbered_above n (n + 1) x xs (omega arith)) (numbered_ascends (n + 1) xs)

numbered_values : (n : ℕ) (xs : List Value) → AllByRecursion IsValue xs → AllByRecursion IsValue (numbered n xs)
numbered_values n [] k = tt
numbered_values n (x ∷ xs) k = (is_couple _ _ (is_int (pos n)) k.0, numbered_values (n + 1) xs k.1)

values_numbered : (n : ℕ) (xs : List Value) → AllByRecursion IsValue (numbered n xs) → AllByRecursion IsValue xs
values_numbered n [] k = tt
values_numbered n (x ∷ xs) k = ((couple_parts _ _ k.0).1, values_numbered (n + 1) xs k.1)

-- the sequence of values is a value
pub is_sequence_value : (xs : List Value) → AllByRecursion IsValue xs → IsValue (sequence_of xs)
is_sequence_value xs k = is_set _ (numbered_ascends 1 xs) (numbered_values 1 xs k)

-- what a sequence is of are values
pub sequence_values : (xs : List Value) → IsValue (sequence_of xs) → AllByRecursion IsValue xs
sequence_values xs h = values_numbered 1 xs (set_members (numbered 1 xs) h)

-- ---- the list of a sequence

pub seconds-sequence : (xs : List Value) → seconds (elements (sequence_of xs)) ≡ xs
seconds-sequence xs = ap seconds (elements-Set (numbered 1 xs)) ∙ seconds-numbered 1 xs

-- the value is the sequence of its list
pub as_sequence_sound : (v : Value) (xs : List Value) → as_sequence v ≡ Some xs → v ≡ sequence_of xs
unfolding as_sequence
as_sequence_sound v xs e = go (same_value v (sequence_of (seconds (elements v)))) refl e
  where
    go : (b : Bool) → same_value v (sequence_of (seconds (elements v))) ≡ b → ◌≡◌ {A = Option (List Value)} (if b then Some (seconds (elements v)) else None) (Some xs) → v ≡ sequence_of xs
    go true f g = let same : seconds (elements v) ≡ xs = cc in (value_decides v _).0 f ∙ ap sequence_of same
    go false f g = absurd (cc)

-- the sequence of a list has that list
pub as_sequence_of : (xs : List Value) → as_sequence (sequence_of xs) ≡ Some xs
unfolding as_sequence
as_sequence_of xs =
    let same : sequence_of xs ≡ sequence_of (seconds (elements (sequence_of xs))) = ap sequence_of (sym (seconds-sequence xs)) in
    let test : same_value (sequence_of xs) (sequence_of (seconds (elements (sequence_of xs)))) ≡ true = (value_decides (sequence_of xs) _).1 same in
    ap (λ (b : Bool). if b then Some (seconds (elements (sequence_of xs))) else None) test ∙ ap Some (seconds-sequence xs)

pub as_sequence_complete : (v : Value) (xs : List Value) → v ≡ sequence_of xs → as_sequence v ≡ Some xs
as_sequence_complete v xs e = ap as_sequence e ∙ as_sequence_of xs

-- a value is the sequence of one list at most
pub sequence_once : (xs ys : List Value) → sequence_of xs ≡ sequence_of ys → xs ≡ ys
sequence_once xs ys e = sym (seconds-sequence xs) ∙ ap (λ v. seconds (elements v)) e ∙ seconds-sequence ys

-- what is no sequence has no list
pub as_sequence_none : (v : Value) → (IsSequence v → ⊥) → as_sequence v ≡ None
as_sequence_none v k = go (as_sequence v) refl
  where
    go : (o : Option (List Value)) → as_sequence v ≡ o → o ≡ None
    go None e = refl
    go (Some xs) e = absurd (k (xs, as_sequence_sound v xs e))

-- ---- the size of a sequence

-- two nodes for each element, and those that it has
abbrev pub weight : List Value → ℕ
weight [] = 0
weight (x ∷ xs) = 2 + node_count x + weight xs

count-numbered : (n : ℕ) (xs : List Value) → sum (map node_count (numbered n xs)) ≡ weight xs
count-numbered n [] = refl
count-numbered n (x ∷ xs) =
    let one : node_count (Pair (Int (pos n)) x) ≡ 2 + node_count x = count-Pair (Int (pos n)) x ∙ (let i = count-Int (pos n) in omega arith) in
    let more = count-numbered (n + 1) xs in
    let split = sum_by-cons (λ (m : ℕ). m) (node_count (Pair (Int (pos n)) x)) (map node_count (numbered (n + 1) xs)) in
    split ∙ omega arith

pub count-sequence : (xs : List Value) → node_count (sequence_of xs) ≡ 1 + weight xs
count-sequence xs = count-Set (numbered 1 xs) ∙ ap (λ n. 1 + n) (count-numbered 1 xs)

pub weight-append : (xs ys : List Value) → weight (xs ++ ys) ≡ weight xs + weight ys
weight-append [] ys = omega arith
weight-append (x ∷ xs) ys = let more = weight-append xs ys in omega arith

-- an element has fewer nodes than the sequence
pub count-element : (i : ℕ) (xs : List Value) (x : Value) → slice_get xs i ≡ Some x → node_count x ≤ weight xs
count-element i [] x e = cc
count-element zero (y ∷ ys) x e = let same : node_count y ≡ node_count x = ap node_count (let f : y ≡ x = cc in f) in omega arith
count-element (suc i) (y ∷ ys) x e = let more = count-element i ys x e in omega arith
