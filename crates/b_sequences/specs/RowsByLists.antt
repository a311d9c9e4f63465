-- The rows by the lists of their operands.
use Rattle.std.proofs.lemmas.Bool.{leb-true, le-leb}
use Rattle.std.proofs.Common.{◌≡◌, ℕ, suc, ◌+◌, ◌-◌, ◌≤◌, pos, negsuc, Bool, true, false, ◌&&◌, List, [], ◌∷◌, ◌++◌, length, take, drop, map, Option, Some, None, Ok, Err, arith, refl, sym, ap, ◌∙◌, subst, length-append}
use Rattle.std.specs.Prelude.{slice_get, if◌then◌else◌, reverse, unwrap_or, is_some, option_and_then, nat_le}
use Rattle.std.specs.Option.{option_map}
use Rattle.std.specs.List.{list_all, flat_map}
use Rattle.std.proofs.lemmas.List.{take-append-drop, take_at, drop_at, reverse-append, length-take-le}
use Rattle.b_values.specs.Values.{IsKept, limited, node_count}
use Rattle.b_values.specs.declared.values.FaultKind.TheVariants.{IllDefined}
use Rattle.b_values.specs.declared.values.Value.{Value, out-Value, roll-Value, roll-out-Value}
use Rattle.b_values.specs.declared.values.Value.TheOpen.{Value-F}
use Rattle.b_values.specs.declared.values.Value.TheVariants.{Int, rolls-Int, outs-Int}
use Rattle.set_making.specs.MakingLaws.{limited_fits}
use Rattle.b_sequences.specs.Sequences.{sequence_of, as_sequence, IsSequence, IsNonempty}
use Rattle.b_sequences.specs.SequenceLaws.{as_sequence_sound, as_sequence_of, as_sequence_complete, as_sequence_none, count-sequence, weight, weight-append}
use Rattle.b_sequences.specs.Rows.{sequence_answer, value_answer, size_row, rev_row, first_row, last_row, all_but_last, front_row, all_but_first, tail_row, concat_row, prepend_row, append_row, number_within, take_row, drop_first_row, is_sequence, list_of, joined, conc_row}

-- a sequence of no more nodes than one that is kept is within the limit
within : (s : Value) (xs ys : List Value) → IsKept s → s ≡ sequence_of xs → weight ys ≤ weight xs → limited (sequence_of ys) ≡ Ok (sequence_of ys)
within s xs ys h e l =
    let same : node_count s ≡ 1 + weight xs = ap node_count e ∙ count-sequence xs in
    let all = h.size in
    limited_fits (sequence_of ys) (omega (arith, count-sequence ys))

weight-parts : (n : ℕ) (xs : List Value) → weight (take n xs) + weight (drop n xs) ≡ weight xs
weight-parts n xs = sym (weight-append (take n xs) (drop n xs)) ∙ ap weight (take-append-drop n xs)

weight-reverse : (xs : List Value) → weight (reverse xs) ≡ weight xs
weight-reverse [] = refl
weight-reverse (x ∷ xs) = ap weight (reverse-append (x ∷ []) xs) ∙ weight-append (reverse xs) (x ∷ []) ∙ (let more = weight-reverse xs in omega arith)

-- ---- size(s) and rev(s)

pub size_by_list : (s : Value) (xs : List Value) → s ≡ sequence_of xs → size_row s ≡ Ok (Int (pos (length xs)))
size_by_list s xs e = ap (λ o. value_answer (option_map (λ ys. Int (pos (length ys))) o)) (as_sequence_complete s xs e)

pub size_otherwise : (s : Value) → (IsSequence s → ⊥) → size_row s ≡ Err IllDefined
size_otherwise s k = ap (λ o. value_answer (option_map (λ ys. Int (pos (length ys))) o)) (as_sequence_none s k)

pub rev_by_list : (s : Value) (xs : List Value) → IsKept s → s ≡ sequence_of xs → rev_row s ≡ Ok (sequence_of (reverse xs))
rev_by_list s xs h e = ap (λ o. sequence_answer (option_map reverse o)) (as_sequence_complete s xs e) ∙ within s xs (reverse xs) h e (omega (arith, weight-reverse xs))

pub rev_otherwise : (s : Value) → (IsSequence s → ⊥) → rev_row s ≡ Err IllDefined
rev_otherwise s k = ap (λ o. sequence_answer (option_map reverse o)) (as_sequence_none s k)

-- ---- the ends

-- what the empty sequence has nothing of, nothing but a nonempty one has
nothing_of : {A : Type 0} (f : List Value → Option A) (s : Value) → f [] ≡ None → (IsNonempty s → ⊥) → option_and_then f (as_sequence s) ≡ None
nothing_of {A} f s e k = go (as_sequence s) refl
  where
    go : (o : Option (List Value)) → as_sequence s ≡ o → option_and_then f o ≡ None
    go None g = refl
    go (Some []) g = e
    go (Some (x ∷ xs)) g = absurd (k (x, (xs, as_sequence_sound s (x ∷ xs) g)))

pub first_by_list : (s x : Value) (xs : List Value) → s ≡ sequence_of (x ∷ xs) → first_row s ≡ Ok x
first_by_list s x xs e = ap (λ o. value_answer (option_and_then (λ ys. slice_get ys 0) o)) (as_sequence_complete s (x ∷ xs) e)

pub first_otherwise : (s : Value) → (IsNonempty s → ⊥) → first_row s ≡ Err IllDefined
first_otherwise s k = ap value_answer (nothing_of (λ ys. slice_get ys 0) s refl k)

get_last : (xs : List Value) (x : Value) → slice_get (xs ++ x ∷ []) (length xs) ≡ Some x
get_last [] x = refl
get_last (y ∷ ys) x = get_last ys x

pub last_by_list : (s x : Value) (xs : List Value) → s ≡ sequence_of (xs ++ x ∷ []) → last_row s ≡ Ok x
last_by_list s x xs e =
    let place : length (xs ++ x ∷ []) - 1 ≡ length xs = omega (arith, length-append xs (x ∷ [])) in
    ap (λ o. value_answer (option_and_then (λ ys. slice_get ys (length ys - 1)) o)) (as_sequence_complete s (xs ++ x ∷ []) e)
    ∙ ap (λ n. value_answer (slice_get (xs ++ x ∷ []) n)) place ∙ ap value_answer (get_last xs x)

pub last_otherwise : (s : Value) → (IsNonempty s → ⊥) → last_row s ≡ Err IllDefined
last_otherwise s k = ap value_answer (nothing_of (λ ys. slice_get ys (length ys - 1)) s refl k)

but_last : (xs : List Value) (x : Value) → all_but_last (xs ++ x ∷ []) ≡ Some xs
but_last [] x = refl
but_last (y ∷ ys) x =
    let long : length (ys ++ x ∷ []) ≡ suc (length ys) = omega (arith, length-append ys (x ∷ [])) in
    ap (λ n. Some (take n (y ∷ (ys ++ x ∷ [])))) long ∙ ap (λ zs. Some (y ∷ zs)) (take_at ys (x ∷ []) (length ys) refl)

pub front_by_list : (s x : Value) (xs : List Value) → IsKept s → s ≡ sequence_of (xs ++ x ∷ []) → front_row s ≡ Ok (sequence_of xs)
front_by_list s x xs h e =
    ap (λ o. sequence_answer (option_and_then all_but_last o)) (as_sequence_complete s (xs ++ x ∷ []) e) ∙ ap sequence_answer (but_last xs x)
    ∙ within s (xs ++ x ∷ []) xs h e (omega (arith, weight-append xs (x ∷ [])))

pub front_otherwise : (s : Value) → (IsNonempty s → ⊥) → front_row s ≡ Err IllDefined
front_otherwise s k = ap sequence_answer (nothing_of all_but_last s refl k)

pub tail_by_list : (s x : Value) (xs : List Value) → IsKept s → s ≡ sequence_of (x ∷ xs) → tail_row s ≡ Ok (sequence_of xs)
tail_by_list s x xs h e =
    ap (λ o. sequence_answer (option_and_then all_but_first o)) (as_sequence_complete s (x ∷ xs) e) ∙ within s (x ∷ xs) xs h e (omega arith)

pub tail_otherwise : (s : Value) → (IsNonempty s → ⊥) → tail_row s ≡ Err IllDefined
tail_otherwise s k = ap sequence_answer (nothing_of all_but_first s refl k)

-- ---- joins

pub concat_by_lists : (s t : Value) (xs ys : List Value) → s ≡ sequence_of xs → t ≡ sequence_of ys → concat_row s t ≡ limited (sequence_of (xs ++ ys))
concat_by_lists s t xs ys e f =
    ap (λ o. sequence_answer (option_and_then (λ us. option_map (λ vs. us ++ vs) (as_sequence t)) o)) (as_sequence_complete s xs e)
    ∙ ap (λ o. sequence_answer (option_map (λ vs. xs ++ vs) o)) (as_sequence_complete t ys f)

pub concat_otherwise : (s t : Value) → (IsSequence s × IsSequence t → ⊥) → concat_row s t ≡ Err IllDefined
concat_otherwise s t k = go (as_sequence s) (as_sequence t) refl refl
  where
    go : (o p : Option (List Value)) → as_sequence s ≡ o → as_sequence t ≡ p → sequence_answer (option_and_then (λ us. option_map (λ vs. us ++ vs) p) o) ≡ Err IllDefined
    go None p e f = refl
    go (Some xs) None e f = refl
    go (Some xs) (Some ys) e f = absurd (k ((xs, as_sequence_sound s xs e), (ys, as_sequence_sound t ys f)))

pub prepend_by_list : (x s : Value) (xs : List Value) → s ≡ sequence_of xs → prepend_row x s ≡ limited (sequence_of (x ∷ xs))
prepend_by_list x s xs e = ap (λ o. sequence_answer (option_map (λ ys. x ∷ ys) o)) (as_sequence_complete s xs e)

pub prepend_otherwise : (x s : Value) → (IsSequence s → ⊥) → prepend_row x s ≡ Err IllDefined
prepend_otherwise x s k = ap (λ o. sequence_answer (option_map (λ ys. x ∷ ys) o)) (as_sequence_none s k)

pub append_by_list : (s x : Value) (xs : List Value) → s ≡ sequence_of xs → append_row s x ≡ limited (sequence_of (xs ++ x ∷ []))
append_by_list s x xs e = ap (λ o. sequence_answer (option_map (λ ys. ys ++ x ∷ []) o)) (as_sequence_complete s xs e)

pub append_otherwise : (s x : Value) → (IsSequence s → ⊥) → append_row s x ≡ Err IllDefined
append_otherwise s x k = ap (λ o. sequence_answer (option_map (λ ys. ys ++ x ∷ []) o)) (as_sequence_none s k)

-- ---- cuts

number_there : (n : Value) (k limit : ℕ) → n ≡ Int (pos k) → nat_le k limit ≡ true → number_within limit (out-Value n) ≡ Some k
number_there n k limit e h = ap (λ v. number_within limit (out-Value v)) e ∙ ap (number_within limit) (outs-Int (pos k)) ∙ ap (λ (b : Bool). if b then Some k else None) h

layer_number : (x : Value-F Value) (limit k : ℕ) → number_within limit x ≡ Some k → (roll-Value x ≡ Int (pos k)) × (k ≤ limit)
layer_number (Value-F.Int (pos m)) limit k e = go (nat_le m limit) refl e
  where
    go : (b : Bool) → nat_le m limit ≡ b → ◌≡◌ {A = Option ℕ} (if b then Some m else None) (Some k) → (roll-Value (Value-F.Int (pos m)) ≡ Int (pos k)) × (k ≤ limit)
    go true f g = let same : m ≡ k = cc in (rolls-Int (pos m) ∙ ap (λ n. Int (pos n)) same, subst (λ n. n ≤ limit) same (leb-true m limit f))
    go false f g = absurd (cc)
layer_number (Value-F.Int (negsuc m)) limit k e = absurd (cc)
layer_number (Value-F.Truth b) limit k e = absurd (cc)
layer_number (Value-F.Text t) limit k e = absurd (cc)
layer_number (Value-F.Elem t i) limit k e = absurd (cc)
layer_number (Value-F.Pair a b) limit k e = absurd (cc)
layer_number (Value-F.Set xs) limit k e = absurd (cc)

-- the number within a limit is the value's
pub number_is : (n : Value) (limit k : ℕ) → number_within limit (out-Value n) ≡ Some k → (n ≡ Int (pos k)) × (k ≤ limit)
number_is n limit k e = let r = layer_number (out-Value n) limit k e in (sym (roll-out-Value n) ∙ r.0, r.1)

short : (xs ys : List Value) → nat_le (length xs) (length (xs ++ ys)) ≡ true
short xs ys = le-leb _ _ (omega (arith, length-append xs ys))

-- where no cut of s has so many elements before it, there is no cut
no_cut : (f : ℕ → List Value → List Value) (s n : Value) → ((xs ys : List Value) → s ≡ sequence_of (xs ++ ys) → n ≡ Int (pos (length xs)) → ⊥)
    → option_and_then (λ zs. option_map (λ k. f k zs) (number_within (length zs) (out-Value n))) (as_sequence s) ≡ None
no_cut f s n no_such = go (as_sequence s) refl
  where
    cut : (zs : List Value) → as_sequence s ≡ Some zs → (p : Option ℕ) → number_within (length zs) (out-Value n) ≡ p → option_map (λ k. f k zs) p ≡ None
    cut zs e None g = refl
    cut zs e (Some k) g =
        let r = number_is n (length zs) k g in
        absurd (no_such (take k zs) (drop k zs) (as_sequence_sound s zs e ∙ ap sequence_of (sym (take-append-drop k zs))) (r.0 ∙ ap (λ m. Int (pos m)) (sym (length-take-le k zs r.1))))

    go : (o : Option (List Value)) → as_sequence s ≡ o → option_and_then (λ zs. option_map (λ k. f k zs) (number_within (length zs) (out-Value n))) o ≡ None
    go None e = refl
    go (Some zs) e = cut zs e (number_within (length zs) (out-Value n)) refl

cut_at : (f : ℕ → List Value → List Value) (s n : Value) (xs ys : List Value) → s ≡ sequence_of (xs ++ ys) → n ≡ Int (pos (length xs))
    → option_and_then (λ zs. option_map (λ k. f k zs) (number_within (length zs) (out-Value n))) (as_sequence s) ≡ Some (f (length xs) (xs ++ ys))
cut_at f s n xs ys e g =
    ap (λ o. option_and_then (λ zs. option_map (λ k. f k zs) (number_within (length zs) (out-Value n))) o) (as_sequence_complete s (xs ++ ys) e)
    ∙ ap (option_map (λ k. f k (xs ++ ys))) (number_there n (length xs) (length (xs ++ ys)) g (short xs ys))

pub take_by_lists : (s n : Value) (xs ys : List Value) → IsKept s → s ≡ sequence_of (xs ++ ys) → n ≡ Int (pos (length xs)) → take_row s n ≡ Ok (sequence_of xs)
take_by_lists s n xs ys h e g =
    ap sequence_answer (cut_at take s n xs ys e g) ∙ ap (λ zs. limited (sequence_of zs)) (take_at xs ys (length xs) refl)
    ∙ within s (xs ++ ys) xs h e (omega (arith, weight-append xs ys))

pub take_otherwise : (s n : Value) → ((xs ys : List Value) → s ≡ sequence_of (xs ++ ys) → n ≡ Int (pos (length xs)) → ⊥) → take_row s n ≡ Err IllDefined
take_otherwise s n k = ap sequence_answer (no_cut take s n k)

pub drop_first_by_lists : (s n : Value) (xs ys : List Value) → IsKept s → s ≡ sequence_of (xs ++ ys) → n ≡ Int (pos (length xs)) → drop_first_row s n ≡ Ok (sequence_of ys)
drop_first_by_lists s n xs ys h e g =
    ap sequence_answer (cut_at drop s n xs ys e g) ∙ ap (λ zs. limited (sequence_of zs)) (drop_at xs ys (length xs) refl)
    ∙ within s (xs ++ ys) ys h e (omega (arith, weight-append xs ys))

pub drop_first_otherwise : (s n : Value) → ((xs ys : List Value) → s ≡ sequence_of (xs ++ ys) → n ≡ Int (pos (length xs)) → ⊥) → drop_first_row s n ≡ Err IllDefined
drop_first_otherwise s n k = ap sequence_answer (no_cut drop s n k)

-- ---- conc(s)

all_sequences : (xss : List (List Value)) → list_all is_sequence (map sequence_of xss) ≡ true
all_sequences [] = refl
all_sequences (xs ∷ xss) = ap (λ (o : Option (List Value)). is_some o && list_all is_sequence (map sequence_of xss)) (as_sequence_of xs) ∙ all_sequences xss

their_lists : (xss : List (List Value)) → flat_map list_of (map sequence_of xss) ≡ flat_map (λ xs. xs) xss
their_lists [] = refl
their_lists (xs ∷ xss) =
    ap (λ (o : Option (List Value)). unwrap_or o [] ++ flat_map list_of (map sequence_of xss)) (as_sequence_of xs) ∙ ap (λ ys. xs ++ ys) (their_lists xss)

weight-joined : (xss : List (List Value)) → weight (flat_map (λ xs. xs) xss) ≤ weight (map sequence_of xss)
weight-joined [] = omega arith
weight-joined (xs ∷ xss) = let more = weight-joined xss in omega (arith, weight-append xs (flat_map (λ ys. ys) xss), count-sequence xs)

pub conc_by_lists : (s : Value) (xss : List (List Value)) → IsKept s → s ≡ sequence_of (map sequence_of xss) → conc_row s ≡ Ok (sequence_of (flat_map (λ xs. xs) xss))
conc_by_lists s xss h e =
    ap (λ o. sequence_answer (option_and_then joined o)) (as_sequence_complete s (map sequence_of xss) e)
    ∙ ap (λ (b : Bool). sequence_answer (if b then Some (flat_map list_of (map sequence_of xss)) else None)) (all_sequences xss)
    ∙ ap (λ ys. limited (sequence_of ys)) (their_lists xss)
    ∙ within s (map sequence_of xss) (flat_map (λ xs. xs) xss) h e (weight-joined xss)

-- where each is a sequence, each is the sequence of its list
each_of_its_list : (vs : List Value) → list_all is_sequence vs ≡ true → vs ≡ map sequence_of (map list_of vs)
each_of_its_list [] e = refl
each_of_its_list (v ∷ vs) e = go (each_of_its_list vs) (as_sequence v) refl e
  where
    go : (list_all is_sequence vs ≡ true → vs ≡ map sequence_of (map list_of vs)) → (o : Option (List Value)) → as_sequence v ≡ o → (is_some o && list_all is_sequence vs) ≡ true → v ∷ vs ≡ sequence_of (unwrap_or o []) ∷ map sequence_of (map list_of vs)
    go rest None f g = absurd (cc)
    go rest (Some xs) f g = let one = as_sequence_sound v xs f in let more = rest g in cc

pub conc_otherwise : (s : Value) → ((xss : List (List Value)) → s ≡ sequence_of (map sequence_of xss) → ⊥) → conc_row s ≡ Err IllDefined
conc_otherwise s k = go (as_sequence s) refl
  where
    some : (vs : List Value) → as_sequence s ≡ Some vs → (b : Bool) → list_all is_sequence vs ≡ b → sequence_answer (if b then Some (flat_map list_of vs) else None) ≡ Err IllDefined
    some vs e true f = absurd (k (map list_of vs) (as_sequence_sound s vs e ∙ ap sequence_of (each_of_its_list vs f)))
    some vs e false f = refl

    go : (o : Option (List Value)) → as_sequence s ≡ o → sequence_answer (option_and_then joined o) ≡ Err IllDefined
    go None e = refl
    go (Some vs) e = some vs e (list_all is_sequence vs) refl
