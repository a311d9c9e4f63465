-- What a text stands for is of the type, and is a value.
use Rattle.std.proofs.Common.{◌≡◌, ◌≢◌, ◌≤◌, ◌<◌, ◌+◌, ℕ, zero, suc, ℤ, pos, Bool, true, false, List, [], ◌∷◌, ◌++◌, Option, Some, None, cond, length, arith, refl, sym, ap, ◌∙◌, subst, nat_lt, rules}
use Rattle.std.specs.Prelude.{bytes_eq, position, slice_get, IsSomeAnd}
use Rattle.std.specs.Option.{option_map_or}
use Rattle.std.specs.List.{AllByRecursion, position_or_len}
use Rattle.std.specs.declared.cmp.Ordering.{Ordering}
use Rattle.std.specs.declared.cmp.Ordering.TheVariants.{Less, Equal, Greater}
use Rattle.std.specs.Ordering.{ordering_then, int_cmp}
use Rattle.std.specs.Cmp.{int_cmp_is}
use Rattle.std.specs.Prelude.{◌<ℤ◌}
use Rattle.std.proofs.lemmas.Int.{ints}
use Rattle.std.proofs.lemmas.Bool.Decides.{nat_tests}
use Rattle.ascending.specs.Ascending.{In, IsAscending, set_of}
use Rattle.ascending.specs.AscendingLaws.{AllAbove, ascending_none, ascending_cons, in_set_of, set_of_ascends}
use Rattle.ascending.specs.Members.{all_in, all_from}
use Rattle.b_values.specs.declared.types.SetFace.{SetFace}
use Rattle.b_values.specs.declared.types.Ty.{Ty}
use Rattle.b_values.specs.declared.types.Ty.TheVariants as ty
use Rattle.b_values.specs.declared.values.Value.{Value, out-Value}
use Rattle.b_values.specs.declared.values.Value.TheOpen.{Value-F}
use Rattle.b_values.specs.declared.values.Value.TheVariants as value
use Rattle.b_values.specs.Types.{IsText, IsElement, HasType}
use Rattle.b_values.specs.TypeLaws.{typed-Int, typed-Truth, typed-Text, typed-Elem, typed-Pair, typed-Set}
use Rattle.b_values.specs.Values.{value_cmp, IsValue}
use Rattle.b_values.specs.OrderLaws.{layers_cmp, cmp_out, value_total, value_same}
use Rattle.b_values.specs.ValueLaws.{made, is_int, is_couple, is_set}
use Rattle.b_values.specs.Texts.{names_of}
use Rattle.b_values.specs.Reading.{Form, free, bracketed, numbered, IsPiece, IsList, truth, number, negative, text, element, couple, bracketed_couple, comma_couple, set, sequence, nothing, none, last, more}

is_truth : (b : Bool) → IsValue (value.Truth b)
is_truth b = subst IsValue (value.rolls-Truth b) (made (Value-F.Truth b) tt tt)

is_text_value : (s : List ℕ) → IsValue (value.Text s)
is_text_value s = subst IsValue (value.rolls-Text s) (made (Value-F.Text s) tt tt)

is_element : (k i : ℕ) → IsValue (value.Elem k i)
is_element k i = subst IsValue (value.rolls-Elem k i) (made (Value-F.Elem k i) tt tt)

-- ---- couples of numbers ascend with the numbers

below_is_less : (m n : ℕ) → m < n → int_cmp (pos m) (pos n) ≡ Less
below_is_less m n h = sym (int_cmp_is (pos m) (pos n) Less (let k : pos m <ℤ pos n = omega (arith, ints) in k))

ints_rise : (m n : ℕ) → m < n → value_cmp (value.Int (pos m)) (value.Int (pos n)) ≡ Less
ints_rise m n h = cmp_out (value.Int (pos m)) (value.Int (pos n)) ∙ rw (value.outs-Int (pos m), value.outs-Int (pos n)) (below_is_less m n h)

couples_rise : (m n : ℕ) (v w : Value) → m < n → value_cmp (value.Pair (value.Int (pos m)) v) (value.Pair (value.Int (pos n)) w) ≡ Less
couples_rise m n v w h =
    let first : value_cmp (value.Int (pos m)) (value.Int (pos n)) ≡ Less = ints_rise m n h in
    cmp_out (value.Pair (value.Int (pos m)) v) (value.Pair (value.Int (pos n)) w)
    ∙ rw (value.outs-Pair (value.Int (pos m)) v, value.outs-Pair (value.Int (pos n)) w) (ap (λ r. ordering_then r (value_cmp v w)) first)

numbered_above : (m n : ℕ) (v : Value) (vs : List Value) → m < n → AllAbove value_cmp (value.Pair (value.Int (pos m)) v) (numbered n vs)
numbered_above m n v [] h = tt
numbered_above m n v (w ∷ vs) h = (couples_rise m n v w h, numbered_above m (n + 1) v vs (omega arith))

pub numbered_ascends : (n : ℕ) (vs : List Value) → IsAscending value_cmp (numbered n vs)
numbered_ascends n [] = ascending_none value_cmp
numbered_ascends n (v ∷ vs) = ascending_cons value_cmp _ _ (numbered_above n (n + 1) v vs (omega arith)) (numbered_ascends (n + 1) vs)

numbered_values : (n : ℕ) (vs : List Value) → AllByRecursion IsValue vs → AllByRecursion IsValue (numbered n vs)
numbered_values n [] k = tt
numbered_values n (v ∷ vs) k = (is_couple _ _ (is_int (pos n)) k.0, numbered_values (n + 1) vs k.1)

numbered_typed : (sets : List SetFace) (t : Ty) (n : ℕ) (vs : List Value) → AllByRecursion (HasType sets t) vs → AllByRecursion (HasType sets (ty.Pair ty.Int t)) (numbered n vs)
numbered_typed sets t n [] k = tt
numbered_typed sets t n (v ∷ vs) k = ((typed-Pair sets ty.Int t (value.Int (pos n)) v).1 (typed-Int sets (pos n), k.0), numbered_typed sets t (n + 1) vs k.1)

of_set : (P : Value → Type 0) (xs : List Value) → AllByRecursion P xs → AllByRecursion P (set_of value_cmp xs)
of_set P xs k = all_from P (set_of value_cmp xs) (λ z h. all_in P xs k z ((in_set_of value_cmp value_total value_same z xs).0 h))

-- ---- elements

within : (p : List ℕ → Bool) (xs : List (List ℕ)) (i : ℕ) → position p xs ≡ Some i → i < length xs
within p xs i e = go (nat_lt (position_or_len p xs) (length xs)) refl e
  where
    below : (a b : ℕ) → nat_lt a b ≡ true → a < b
    below a b e = grind (arith, nat_tests)

    go : (t : Bool) → nat_lt (position_or_len p xs) (length xs) ≡ t → cond t (Some (position_or_len p xs)) None ≡ Some i → i < length xs
    go true f e = let same : position_or_len p xs ≡ i = cc in subst (λ i. i < length xs) same (below _ _ f)
    go false f e = absurd (cc)

pub is_known : (sets : List SetFace) (k i : ℕ) (name : List ℕ) → position (bytes_eq name) (names_of sets k) ≡ Some i → IsElement sets k i
is_known sets k i name e = go (slice_get sets k) (within (bytes_eq name) (names_of sets k) i e)
  where
    go : (o : Option SetFace) → i < length (option_map_or (λ f. f.elements) o []) → IsSomeAnd o (λ f. i < length f.elements)
    go None h = absurd (omega arith)
    go (Some f) h = h

module _ (sets : List SetFace) where
  mutual
    pub piece_typed : {f : Form} {t : Ty} {d : ℕ} {bs : List ℕ} {v : Value} → IsPiece sets f t d bs v → HasType sets t v × IsValue v
    piece_typed (truth n b) = (typed-Truth sets b, is_truth b)
    piece_typed (number n digits i h) = (typed-Int sets _, is_int _)
    piece_typed (negative n k digits i h) = (typed-Int sets _, is_int _)
    piece_typed (text n spelling bytes s i) = ((typed-Text sets bytes).1 i, is_text_value bytes)
    piece_typed (element n k index name is e small) = ((typed-Elem sets k k index).1 (refl, is_known sets k index name e), is_element k index)
    piece_typed (couple {a} {b} {x} {y} n l r) = let p = piece_typed l in let q = piece_typed r in ((typed-Pair sets a b x y).1 (p.0, q.0), is_couple x y p.1 q.1)
    piece_typed (bracketed_couple {a} {b} {x} {y} n k m l r) = let p = piece_typed l in let q = piece_typed r in ((typed-Pair sets a b x y).1 (p.0, q.0), is_couple x y p.1 q.1)
    piece_typed (comma_couple {a} {b} {x} {y} n k m l r) = let p = piece_typed l in let q = piece_typed r in ((typed-Pair sets a b x y).1 (p.0, q.0), is_couple x y p.1 q.1)
    piece_typed (set {a} {xs} n m l) = let p = list_typed l in ((typed-Set sets a (set_of value_cmp xs)).1 (of_set (HasType sets a) xs p.0), is_set (set_of value_cmp xs) (set_of_ascends value_cmp value_total value_same xs) (of_set IsValue xs p.1))
    piece_typed (sequence {a} {xs} n m l) = let p = list_typed l in ((typed-Set sets (ty.Pair ty.Int a) (numbered 1 xs)).1 (numbered_typed sets a 1 xs p.0), is_set (numbered 1 xs) (numbered_ascends 1 xs) (numbered_values 1 xs p.1))
    piece_typed (nothing a n) = ((typed-Set sets (ty.Pair ty.Int a) []).1 tt, is_set [] (ascending_none value_cmp) tt)

    pub list_typed : {a : Ty} {d : ℕ} {bs : List ℕ} {xs : List Value} → IsList sets a d bs xs → AllByRecursion (HasType sets a) xs × AllByRecursion IsValue xs
    list_typed none = (tt, tt)
    list_typed (last p) = let q = piece_typed p in ((q.0, tt), (q.1, tt))
    list_typed (more n p l) = let q = piece_typed p in let r = list_typed l in ((q.0, r.0), (q.1, r.1))
