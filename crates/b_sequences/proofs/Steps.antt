-- What the couples of a sequence give: its list, cut, turned and joined.
use Rattle.std.proofs.Common.{◌≡◌, ℕ, suc, ◌+◌, ◌-◌, ◌<◌, pos, List, [], ◌∷◌, ◌++◌, length, take, drop, Option, Some, None, Result, Ok, Err, arith, refl, sym, ap, ◌∙◌}
use Rattle.std.specs.Prelude.{slice_get, option_and_then, IfOk}
use Rattle.std.specs.declared.alloc.AllocError.{AllocError}
use Rattle.std.specs.Option.{option_map}
use Rattle.b_values.specs.Reading.{numbered}
use Rattle.b_values.specs.declared.values.Value.{Value}
use Rattle.b_values.specs.declared.values.Value.TheVariants.{Int, Pair}
use Rattle.b_sequences.specs.Sequences.{second, seconds, as_sequence}
use Rattle.b_sequences.specs.SequenceLaws.{second-Pair, length-numbered, numbered-append, take-numbered, seconds-drop, get-numbered}
use Rattle.b_sequences.specs.Rows.{all_but_last, all_but_first}
use Rattle.b_sequences.specs.Numbering.{AreNumbered, HasCouples}

-- there are as many couples as elements
pub couples_length : (cs : List Value) → AreNumbered cs → length cs ≡ length (seconds cs)
couples_length cs n = ap length n ∙ length-numbered 1 (seconds cs)

-- the second part at a place is the element there
pub part_there : (v : Value) (cs : List Value) (i : ℕ) → HasCouples v cs → option_and_then second (slice_get cs i) ≡ slice_get (seconds cs) i
part_there v cs i h =
    ap (λ (ds : List Value). option_and_then second (slice_get ds i)) h.couples ∙ ap (option_and_then second) (get-numbered i 1 (seconds cs)) ∙ go (slice_get (seconds cs) i)
  where
    go : (o : Option Value) → option_and_then second (option_map (λ x. Pair (Int (pos (1 + i))) x) o) ≡ o
    go None = refl
    go (Some x) = second-Pair (Int (pos (1 + i))) x

-- the couples of both
pub both_numbered : (cs ds : List Value) → AreNumbered cs → cs ++ numbered (length cs + 1) ds ≡ numbered 1 (seconds cs ++ ds)
both_numbered cs ds n =
    let place : length cs + 1 ≡ 1 + length (seconds cs) = omega (arith, couples_length cs n) in
    ap (λ k. cs ++ numbered k ds) place ∙ ap (λ (es : List Value). es ++ numbered (1 + length (seconds cs)) ds) n ∙ sym (numbered-append 1 (seconds cs) ds)

-- ---- what is answered, by the couples of the operand

pub mapped : (f : List Value → List Value) (s : Value) (cs all : List Value) → HasCouples s cs → all ≡ numbered 1 (f (seconds cs)) → ◌≡◌ {A = Option (List Value)} (Some all) (option_map (numbered 1) (option_map f (as_sequence s)))
mapped f s cs all h e = ap Some e ∙ sym (ap (λ o. option_map (numbered 1) (option_map f o)) h.list)

pub chained : (f : List Value → Option (List Value)) (s : Value) (cs : List Value) (r : Result (Option (List Value)) AllocError) → HasCouples s cs
    → IfOk r (λ all. all ≡ option_map (numbered 1) (f (seconds cs))) → IfOk r (λ all. all ≡ option_map (numbered 1) (option_and_then f (as_sequence s)))
chained f s cs (Ok all) h e = e ∙ sym (ap (λ o. option_map (numbered 1) (option_and_then f o)) h.list)
chained f s cs (Err x) h e = tt

pub part_found : (f : List Value → ℕ) (s : Value) (cs : List Value) (i : ℕ) (r : Result (Option Value) AllocError) → HasCouples s cs → i ≡ f (seconds cs)
    → IfOk r (λ x. x ≡ option_and_then second (slice_get cs i)) → IfOk r (λ x. x ≡ option_and_then (λ xs. slice_get xs (f xs)) (as_sequence s))
part_found f s cs i (Ok x) h g e =
    e ∙ part_there s cs i h ∙ ap (slice_get (seconds cs)) g ∙ sym (ap (λ o. option_and_then (λ xs. slice_get xs (f xs)) o) h.list)
part_found f s cs i (Err x) h g e = tt

pub two_lists : (s t : Value) (cs ds all : List Value) → HasCouples s cs → HasCouples t ds → all ≡ cs ++ numbered (length cs + 1) (seconds ds)
    → ◌≡◌ {A = Option (List Value)} (Some all) (option_map (numbered 1) (option_and_then (λ xs. option_map (λ ys. xs ++ ys) (as_sequence t)) (as_sequence s)))
two_lists s t cs ds all h k e =
    ap Some (e ∙ both_numbered cs (seconds ds) h.couples)
    ∙ sym (ap (λ o. option_map (numbered 1) (option_and_then (λ xs. option_map (λ ys. xs ++ ys) (as_sequence t)) o)) h.list
    ∙ ap (λ o. option_map (numbered 1) (option_map (λ ys. seconds cs ++ ys) o)) k.list)

-- the first couples are those of the first elements
pub front_numbered : (n : ℕ) (cs : List Value) → AreNumbered cs → take n cs ≡ numbered 1 (take n (seconds cs))
front_numbered n cs k = ap (take n) k ∙ take-numbered n 1 (seconds cs)

-- the elements of the other couples are the other elements
pub rest_seconds : (n : ℕ) (cs : List Value) → AreNumbered cs → seconds (drop n cs) ≡ drop n (seconds cs)
rest_seconds n cs k = ap (λ (ds : List Value). seconds (drop n ds)) k ∙ seconds-drop n 1 (seconds cs)

but_last_of : (n : ℕ) (xs : List Value) → length xs ≡ suc n → all_but_last xs ≡ Some (take n xs)
but_last_of n [] e = absurd (cc)
but_last_of n (x ∷ xs) e = ap (λ m. Some (take m (x ∷ xs))) (let f : length xs ≡ n = omega arith in f)

pub but_last_couples : (cs all : List Value) → AreNumbered cs → 0 < length cs → all ≡ take (length cs - 1) cs → ◌≡◌ {A = Option (List Value)} (Some all) (option_map (numbered 1) (all_but_last (seconds cs)))
but_last_couples cs all k h e =
    ap Some (e ∙ front_numbered (length cs - 1) cs k)
    ∙ sym (ap (option_map (numbered 1)) (but_last_of (length cs - 1) (seconds cs) (omega (arith, couples_length cs k))))

but_first_of : (xs : List Value) → 0 < length xs → all_but_first xs ≡ Some (drop 1 xs)
but_first_of [] h = absurd (omega arith)
but_first_of (x ∷ xs) h = refl

pub but_first_couples : (cs all : List Value) → AreNumbered cs → 0 < length cs → all ≡ numbered 1 (seconds (drop 1 cs)) → ◌≡◌ {A = Option (List Value)} (Some all) (option_map (numbered 1) (all_but_first (seconds cs)))
but_first_couples cs all k h e =
    ap Some (e ∙ ap (numbered 1) (rest_seconds 1 cs k))
    ∙ sym (ap (option_map (numbered 1)) (but_first_of (seconds cs) (let l = couples_length cs k in omega arith)))

-- a cut at a number within the length
pub cut_couples : (f : ℕ → List Value → List Value) (cs all : List Value) (o : Option ℕ) (k : ℕ) → o ≡ Some k → all ≡ numbered 1 (f k (seconds cs)) → ◌≡◌ {A = Option (List Value)} (Some all) (option_map (numbered 1) (option_map (λ n. f n (seconds cs)) o))
cut_couples f cs all o k e g = ap Some g ∙ sym (ap (λ p. option_map (numbered 1) (option_map (λ n. f n (seconds cs)) p)) e)
