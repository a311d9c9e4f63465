-- Joining the lists of sequences, one at a time.
use Rattle.std.proofs.Common.{◌≡◌, ℕ, ◌+◌, ◌<◌, ◌≤◌, Bool, true, false, ◌&&◌, List, [], ◌∷◌, ◌++◌, length, get_or, drop, Option, Some, None, arith, refl, sym, ap, ◌∙◌, length-append, append_assoc, append-nil}
use Rattle.std.specs.Prelude.{if◌then◌else◌, is_some, unwrap_or, option_and_then}
use Rattle.std.specs.Option.{option_map}
use Rattle.std.specs.List.{list_all, flat_map, cons_option}
use Rattle.std.proofs.lemmas.List.{drop_more, drop_all}
use Rattle.b_values.specs.Reading.{numbered}
use Rattle.b_values.specs.declared.values.Value.{Value}
use Rattle.b_sequences.specs.Sequences.{second, seconds, as_sequence}
use Rattle.b_sequences.specs.SequenceLaws.{length-numbered, numbered-append}
use Rattle.b_sequences.specs.Rows.{joined, is_sequence, list_of}
use Rattle.b_sequences.specs.Joining.{and_lists, PushesList}

abbrev one_then : Option (List Value) → List Value → Option (List Value)
one_then o vs = option_and_then (λ xs. option_map (λ ys. xs ++ ys) (joined vs)) o

-- the first list, then those of the others
joined_cons : (v : Value) (vs : List Value) → joined (v ∷ vs) ≡ one_then (as_sequence v) vs
joined_cons v vs = go (as_sequence v) (list_all is_sequence vs)
  where
    go : (o : Option (List Value)) (b : Bool) → ◌≡◌ {A = Option (List Value)} (if is_some o && b then Some (unwrap_or o [] ++ flat_map list_of vs) else None) (option_and_then (λ xs. option_map (λ ys. xs ++ ys) (if b then Some (flat_map list_of vs) else None)) o)
    go None b = refl
    go (Some xs) true = refl
    go (Some xs) false = refl

-- a list at the end of the couples, and more after it
pushed_more : (all xs ys : List Value) → all ++ numbered (length all + 1) (xs ++ ys) ≡ (all ++ numbered (length all + 1) xs) ++ numbered (length (all ++ numbered (length all + 1) xs) + 1) ys
pushed_more all xs ys =
    let place : (length all + 1) + length xs ≡ length (all ++ numbered (length all + 1) xs) + 1 =
    omega (arith, length-append all (numbered (length all + 1) xs), length-numbered (length all + 1) xs) in
    ap (λ zs. all ++ zs) (numbered-append (length all + 1) xs ys ∙ ap (λ n. numbered (length all + 1) xs ++ numbered n ys) place)
    ∙ sym (append_assoc all (numbered (length all + 1) xs) (numbered (length (all ++ numbered (length all + 1) xs) + 1) ys))

abbrev pushed : List Value → List Value → List Value
pushed all xs = all ++ numbered (length all + 1) xs

-- one list more, and then the others
whole_step : (all new : List Value) (v : Value) (vs : List Value) → ◌≡◌ {A = Option (List Value)} (option_map (pushed all) (joined (v ∷ []))) (Some new) → option_map (pushed all) (joined (v ∷ vs)) ≡ option_map (pushed new) (joined vs)
whole_step all new v vs e =
    ap (option_map (pushed all)) (joined_cons v vs) ∙ go (as_sequence v) (joined vs) (sym (ap (option_map (pushed all)) (joined_cons v [])) ∙ e)
  where
    go : (o p : Option (List Value)) → ◌≡◌ {A = Option (List Value)} (option_map (pushed all) (one_then o [])) (Some new) → option_map (pushed all) (option_and_then (λ xs. option_map (λ ys. xs ++ ys) p) o) ≡ option_map (pushed new) p
    go None p f = absurd (cc)
    go (Some xs) None f = refl
    go (Some xs) (Some ys) f =
        let is : pushed all (xs ++ []) ≡ new = cc in
        ap Some (pushed_more all xs ys ∙ ap (λ zs. pushed zs ys) (ap (pushed all) (sym (append-nil xs)) ∙ is))

broken_step : (all : List Value) (v : Value) (vs : List Value) → ◌≡◌ {A = Option (List Value)} (option_map (pushed all) (joined (v ∷ []))) None → option_map (pushed all) (joined (v ∷ vs)) ≡ None
broken_step all v vs e =
    ap (option_map (pushed all)) (joined_cons v vs) ∙ go (as_sequence v) (sym (ap (option_map (pushed all)) (joined_cons v [])) ∙ e)
  where
    go : (o : Option (List Value)) → ◌≡◌ {A = Option (List Value)} (option_map (pushed all) (one_then o [])) None → option_map (pushed all) (one_then o vs) ≡ None
    go None f = refl
    go (Some xs) f = absurd (cc)

-- the lists of the other couples come after what is pushed
pub goes_on : (all new : List Value) (c : Value) (cs : List Value) → PushesList c all new true → and_lists all (c ∷ cs) ≡ and_lists new cs
goes_on all new c cs h = go (second c) h
  where
    go : (o : Option Value) → ◌≡◌ {A = Option (List Value)} (option_map (pushed all) (joined (cons_option o []))) (Some new) → option_map (pushed all) (joined (cons_option o (seconds cs))) ≡ and_lists new cs
    go None e = let is : all ++ [] ≡ new = cc in ap (λ zs. and_lists zs cs) (sym (append-nil all) ∙ is)
    go (Some v) e = whole_step all new v (seconds cs) e

pub breaks_off : (all new : List Value) (c : Value) (cs : List Value) → PushesList c all new false → and_lists all (c ∷ cs) ≡ None
breaks_off all new c cs h = go (second c) h
  where
    go : (o : Option Value) → ◌≡◌ {A = Option (List Value)} (option_map (pushed all) (joined (cons_option o []))) None → option_map (pushed all) (joined (cons_option o (seconds cs))) ≡ None
    go None e = absurd (cc)
    go (Some v) e = broken_step all v (seconds cs) e

-- ---- the loop over the couples

pub rest_at : (cs : List Value) (i : ℕ) (c : Value) → i < length cs → c ≡ get_or cs i c → drop i cs ≡ c ∷ drop (i + 1) cs
rest_at cs i c h e = drop_more cs i c h ∙ ap (λ d. d ∷ drop (i + 1) cs) (sym e)

pub one_more : (cs all new : List Value) (i : ℕ) (c : Value) → i < length cs → c ≡ get_or cs i c → PushesList c all new true → (whole : Option (List Value)) → and_lists all (drop i cs) ≡ whole → and_lists new (drop (i + 1) cs) ≡ whole
one_more cs all new i c h e p whole s = sym (goes_on all new c (drop (i + 1) cs) p) ∙ sym (ap (and_lists all) (rest_at cs i c h e)) ∙ s

pub none_left : (cs all new : List Value) (i : ℕ) (c : Value) → i < length cs → c ≡ get_or cs i c → PushesList c all new false → (whole : Option (List Value)) → and_lists all (drop i cs) ≡ whole → None ≡ whole
none_left cs all new i c h e p whole s = sym (breaks_off all new c (drop (i + 1) cs) p) ∙ sym (ap (and_lists all) (rest_at cs i c h e)) ∙ s

pub all_done : (cs all : List Value) (i : ℕ) → length cs ≤ i → (whole : Option (List Value)) → and_lists all (drop i cs) ≡ whole → Some all ≡ whole
all_done cs all i h whole s = ap Some (sym (append-nil all)) ∙ sym (ap (and_lists all) (drop_all i cs h)) ∙ s
