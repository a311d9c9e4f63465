-- Lists of couples, one couple at a time.
use Rattle.std.proofs.Common.{◌≡◌, ◌↔◌, IsTrue, ℕ, ◌+◌, pos, Bool, true, false, ◌&&◌, List, [], ◌∷◌, ◌++◌, length, Option, Some, None, refl, sym, ap, ◌∙◌, get_or, drop, ◌<◌, ◌≤◌, append-nil}
use Rattle.std.specs.Prelude.{reverse, MatchOption, is_some}
use Rattle.std.specs.Borrow.{Bor}
use Rattle.std.proofs.lemmas.Bool.Decides.{Decides-int_eq}
use Rattle.std.specs.List.{cons_option}
use Rattle.std.proofs.lemmas.List.{reverse-append, drop_more, drop_all}
use Rattle.std.proofs.lemmas.List.Elements.{filter_map-append}
use Rattle.b_values.specs.Reading.{numbered}
use Rattle.b_values.specs.ValueLaws.{elements-Set}
use Rattle.b_values.specs.Values.{elements}
use Rattle.b_values.specs.declared.values.Value.{Value, out-Value, roll-Value, roll-out-Value}
use Rattle.b_values.specs.declared.values.Value.TheOpen.{Value-F}
use Rattle.b_values.specs.declared.values.Value.TheVariants.{Int, Pair, Set, rolls-Int, rolls-Pair, outs-Int, outs-Pair}
use Rattle.b_sequences.specs.Sequences.{second, seconds, as_sequence, IsSequence}
use Rattle.b_sequences.specs.SequenceLaws.{second-Pair, seconds-numbered, as_sequence_sound, as_sequence_complete, as_sequence_none}
use Rattle.b_sequences.specs.Numbering.{is_number, stands_at, AreNumbered, HasCouples}

-- couples of n, n + 1 and so on
abbrev pub count_up : ℕ → List Value → Bool
count_up n [] = true
count_up n (c ∷ cs) = stands_at n (out-Value c) && count_up (n + 1) cs

and_true : (p q : Bool) → (p && q) ≡ true → (p ≡ true) × (q ≡ true)
and_true true q e = (refl, e)
and_true false q e = absurd (cc)

number_at : (n : ℕ) (x : Value-F Value) → is_number n x ≡ true → roll-Value x ≡ Int (pos n)
number_at n (Value-F.Int k) e = rolls-Int k ∙ ap Int ((Decides-int_eq k (pos n)).0 e)
number_at n (Value-F.Truth b) e = absurd (cc)
number_at n (Value-F.Text t) e = absurd (cc)
number_at n (Value-F.Elem t i) e = absurd (cc)
number_at n (Value-F.Pair a b) e = absurd (cc)
number_at n (Value-F.Set xs) e = absurd (cc)

couple_at : (n : ℕ) (x : Value-F Value) → stands_at n x ≡ true → (b : Value) × (roll-Value x ≡ Pair (Int (pos n)) b)
couple_at n (Value-F.Pair a b) e = (b, rolls-Pair a b ∙ ap (λ v. Pair v b) (sym (roll-out-Value a) ∙ number_at n (out-Value a) e))
couple_at n (Value-F.Int k) e = absurd (cc)
couple_at n (Value-F.Truth b) e = absurd (cc)
couple_at n (Value-F.Text t) e = absurd (cc)
couple_at n (Value-F.Elem t i) e = absurd (cc)
couple_at n (Value-F.Set xs) e = absurd (cc)

-- what counts up is numbered
pub count_up_numbered : (n : ℕ) (cs : List Value) → count_up n cs ≡ true → cs ≡ numbered n (seconds cs)
count_up_numbered n [] e = refl
count_up_numbered n (c ∷ cs) e =
    let parts = and_true (stands_at n (out-Value c)) (count_up (n + 1) cs) e in
    let one = couple_at n (out-Value c) parts.0 in
    let is : c ≡ Pair (Int (pos n)) one.0 = sym (roll-out-Value c) ∙ one.1 in
    let its : seconds (c ∷ cs) ≡ one.0 ∷ seconds cs = ap (λ o. cons_option o (seconds cs)) (ap second is ∙ second-Pair (Int (pos n)) one.0) in
    ap (λ d. d ∷ cs) is ∙ ap (λ ds. Pair (Int (pos n)) one.0 ∷ ds) (count_up_numbered (n + 1) cs parts.1) ∙ ap (numbered n) (sym its)

-- what is numbered counts up
pub numbered_counts_up : (n : ℕ) (xs : List Value) → count_up n (numbered n xs) ≡ true
numbered_counts_up n [] = refl
numbered_counts_up n (x ∷ xs) =
    let test : stands_at n (out-Value (Pair (Int (pos n)) x)) ≡ true =
    ap (stands_at n) (outs-Pair (Int (pos n)) x) ∙ ap (is_number n) (outs-Int (pos n)) ∙ (Decides-int_eq (pos n) (pos n)).1 refl in
    ap (λ b. b && count_up (n + 1) (numbered (n + 1) xs)) test ∙ numbered_counts_up (n + 1) xs

pub count_up_tells : (cs : List Value) (b : Bool) → count_up 1 cs ≡ b → IsTrue b ↔ (cs ≡ numbered 1 (seconds cs))
count_up_tells cs b e = (
  λ h. count_up_numbered 1 cs (e ∙ h),
  λ h. sym e ∙ ap (count_up 1) h ∙ numbered_counts_up 1 (seconds cs),
)

-- a couple out of place ends the count
pub count_up_stops : (cs : List Value) (i : ℕ) (c : Value) → i < length cs → c ≡ get_or cs i c → stands_at (i + 1) (out-Value c) ≡ false → count_up 1 cs ≡ count_up (i + 1) (drop i cs) → count_up 1 cs ≡ false
count_up_stops cs i c h g f e =
    e ∙ ap (count_up (i + 1)) (drop_more cs i c h ∙ ap (λ d. d ∷ drop (i + 1) cs) (sym g)) ∙ ap (λ b. b && count_up ((i + 1) + 1) (drop (i + 1) cs)) f

pub count_up_ends : (cs : List Value) (i : ℕ) → length cs ≤ i → count_up 1 cs ≡ count_up (i + 1) (drop i cs) → count_up 1 cs ≡ true
count_up_ends cs i h e = e ∙ ap (count_up (i + 1)) (drop_all i cs h)

-- ---- what the couples of a set say

pub numbered_set : (v : Value) (cs xs : List Value) → v ≡ Set xs → cs ≡ xs → AreNumbered cs → HasCouples v cs
numbered_set v cs xs e f n = record {
  list = as_sequence_complete v (seconds cs) (e ∙ ap Set (sym f ∙ n));
  couples = n;
}

pub unnumbered_set : (v : Value) (cs xs : List Value) → v ≡ Set xs → cs ≡ xs → (AreNumbered cs → ⊥) → as_sequence v ≡ None
unnumbered_set v cs xs e f k = as_sequence_none v (λ p.
    let same : cs ≡ numbered 1 p.0 = f ∙ sym (elements-Set xs) ∙ ap elements (sym e ∙ p.1) ∙ elements-Set (numbered 1 p.0) in
    k (same ∙ ap (numbered 1) (sym (ap seconds same ∙ seconds-numbered 1 p.0))))

pub found_or_not : (v : Value) (o : Option (Bor (List Value))) (b : Bool) → MatchOption o (as_sequence v ≡ None) (λ cs. HasCouples v cs.now) → b ≡ is_some o → IsTrue b ↔ IsSequence v
found_or_not v None b h e = (λ t. absurd (cc), λ p. absurd (let f = as_sequence_complete v p.0 p.1 in cc))
found_or_not v (Some cs) b h e = (λ t. (seconds cs.now, as_sequence_sound v (seconds cs.now) h.list), λ p. e)

-- ---- the other way round

pub seconds-reverse : (cs : List Value) → seconds (reverse cs) ≡ reverse (seconds cs)
seconds-reverse [] = refl
seconds-reverse (c ∷ cs) =
    ap seconds (reverse-append (c ∷ []) cs) ∙ filter_map-append second (reverse cs) (c ∷ []) ∙ ap (λ xs. xs ++ seconds (c ∷ [])) (seconds-reverse cs) ∙ go (second c)
  where
    go : (o : Option Value) → reverse (seconds cs) ++ cons_option o [] ≡ reverse (cons_option o (seconds cs))
    go None = append-nil (reverse (seconds cs))
    go (Some x) = sym (reverse-append (x ∷ []) (seconds cs))
