-- The next token of a text.
use Rattle.std.proofs.Common.{◌≡◌, ◌∙◌, sym, ap, subst, refl, ℕ, suc, ◌+◌, ◌≤◌, ◌<◌, nat_lt, nat_eq, Bool, true, false, cond, not, ◌&&◌, ◌||◌, List, [], ◌∷◌, ◌++◌, length, take, drop, inl, inr, arith, append_assoc, length-append}
use Rattle.std.specs.Prelude.{◌⊎◌, codes, nat_le, ◌==◌, if◌then◌else◌, zero}
use Rattle.std.specs.List.{list_all, list_any, starts_with}
use Rattle.std.specs.Str.{bytes_eq}
use Rattle.std.proofs.Math.Seq.{take-append_seam, drop-append_seam}
use Rattle.std.proofs.lemmas.List.{take-append-drop, append-nil, drop_all}
use Rattle.std.proofs.lemmas.List.Folds.{list_all-append}
use Rattle.std.proofs.lemmas.Bool.Decides.{nat_tests}
use Rattle.std.proofs.lemmas.Slice.Eq.{bytes_eq-Decides}
use Rattle.animator.specs.Words.{is_digit, is_digits}
use Rattle.host_top.specs.MachineTexts.{is_space, is_letter, is_name_byte, is_word, signs, is_token, IsLongest, IsNext}
use Rattle.host_top.specs.Reading.{past_space, token_len, token_of, behind_token, begins_letter}
use Rattle.host_top.proofs.Fronts.{and_left, and_right, or_none, or_some, Stops, run, run_of, run_within, run_passes, run_stops}

-- ---- what kinds of bytes exclude each other

digit_no_letter : (b : ℕ) → is_digit b ≡ true → is_letter b ≡ false
digit_no_letter b h = grind (arith, nat_tests)

letter_no_digit : (b : ℕ) → is_letter b ≡ true → is_digit b ≡ false
letter_no_digit b h = grind (arith, nat_tests)

letter_no_sign : (b c : ℕ) → is_letter b ≡ true → is_letter c ≡ false → nat_eq b c ≡ false
letter_no_sign b c h k = grind (arith, nat_tests)

-- a letter begins no sign
sign_letter : (b : ℕ) (bytes : List ℕ) → is_letter b ≡ true → list_any (bytes_eq (b ∷ bytes)) signs ≡ false
sign_letter b bytes h = rw (letter_no_sign b 58 h refl, letter_no_sign b 61 h refl, letter_no_sign b 43 h refl, letter_no_sign b 59 h refl) refl

digit_no_sign : (b c : ℕ) → is_digit b ≡ true → is_digit c ≡ false → nat_eq b c ≡ false
digit_no_sign b c h k = grind (arith, nat_tests)

sign_digit : (b : ℕ) (bytes : List ℕ) → is_digit b ≡ true → list_any (bytes_eq (b ∷ bytes)) signs ≡ false
sign_digit b bytes h = rw (digit_no_sign b 58 h refl, digit_no_sign b 61 h refl, digit_no_sign b 43 h refl, digit_no_sign b 59 h refl) refl

-- ---- tokens by their first byte

letter_token : (b : ℕ) (bytes : List ℕ) → is_letter b ≡ true → is_token (b ∷ bytes) ≡ list_all is_name_byte bytes
letter_token b bytes h = rw (h, letter_no_digit b h, sign_letter b bytes h) (step (list_all is_name_byte bytes))
  where
    step : (t : Bool) → (t || false || false) ≡ t
    step true = refl
    step false = refl

digit_token : (b : ℕ) (bytes : List ℕ) → is_digit b ≡ true → is_token (b ∷ bytes) ≡ list_all is_digit bytes
digit_token b bytes h = rw (h, digit_no_letter b h, sign_digit b bytes h) (step (list_all is_digit bytes))
  where
    step : (t : Bool) → (t || false) ≡ t
    step true = refl
    step false = refl

other_token : (b : ℕ) (bytes : List ℕ) → is_letter b ≡ false → is_digit b ≡ false → is_token (b ∷ bytes) ≡ list_any (bytes_eq (b ∷ bytes)) signs
other_token b bytes h k = rw (h, k) refl

-- ---- one more byte

last_of : (q : ℕ → Bool) (a : List ℕ) (c : ℕ) → list_all q a ≡ true → list_all q (a ++ c ∷ []) ≡ q c
last_of q a c h = list_all-append q a (c ∷ []) ∙ rw h (step (q c))
  where
    step : (t : Bool) → (t && true) ≡ t
    step true = refl
    step false = refl

-- a run of bytes is as long as it can be exactly where it stops
longest_letter : (b : ℕ) (bytes rest : List ℕ) → is_letter b ≡ true → list_all is_name_byte bytes ≡ true → Stops is_name_byte rest → IsLongest (b ∷ bytes) rest
longest_letter b bytes [] h k s = tt
longest_letter b bytes (c ∷ rest) h k s = letter_token b (bytes ++ c ∷ []) h ∙ last_of is_name_byte bytes c k ∙ s

longest_digit : (b : ℕ) (bytes rest : List ℕ) → is_digit b ≡ true → list_all is_digit bytes ≡ true → Stops is_digit rest → IsLongest (b ∷ bytes) rest
longest_digit b bytes [] h k s = tt
longest_digit b bytes (c ∷ rest) h k s = digit_token b (bytes ++ c ∷ []) h ∙ last_of is_digit bytes c k ∙ s

letter_stops : (b : ℕ) (bytes rest : List ℕ) → is_letter b ≡ true → list_all is_name_byte bytes ≡ true → IsLongest (b ∷ bytes) rest → Stops is_name_byte rest
letter_stops b bytes [] h k s = tt
letter_stops b bytes (c ∷ rest) h k s = sym (last_of is_name_byte bytes c k) ∙ sym (letter_token b (bytes ++ c ∷ []) h) ∙ s

digit_stops : (b : ℕ) (bytes rest : List ℕ) → is_digit b ≡ true → list_all is_digit bytes ≡ true → IsLongest (b ∷ bytes) rest → Stops is_digit rest
digit_stops b bytes [] h k s = tt
digit_stops b bytes (c ∷ rest) h k s = sym (last_of is_digit bytes c k) ∙ sym (digit_token b (bytes ++ c ∷ []) h) ∙ s

-- ---- the length of the next token

-- a colon with a byte behind it that makes no token
colon_next : (c : ℕ) → is_token (58 ∷ c ∷ []) ≡ false → nat_eq 61 c ≡ false
colon_next c h = step (nat_eq 61 c) refl
  where
    step : (t : Bool) → nat_eq 61 c ≡ t → nat_eq 61 c ≡ false
    step true e =
        let is : c ≡ 61 = grind (arith, nat_tests) in
        let bad : is_token (58 ∷ 61 ∷ []) ≡ false = rw is at h in cc
    step false e = e

len_colon : (rest : List ℕ) → IsLongest (codes ":") rest → token_len (codes ":" ++ rest) ≡ 1
len_colon [] longest = refl
len_colon (c ∷ rest) longest = rw (colon_next c longest) refl

len_sign : (t rest : List ℕ) → list_any (bytes_eq t) signs ≡ true → IsLongest t rest → token_len (t ++ rest) ≡ length t
len_sign t rest some longest =
    elim (or_some (bytes_eq t (codes ":")) _ some) [
      | inl e ↦ subst (λ (t : List ℕ). IsLongest t rest → token_len (t ++ rest) ≡ length t) (sym ((bytes_eq-Decides t (codes ":")).0 e)) (len_colon rest) longest
      | inr k ↦ elim (or_some (bytes_eq t (codes ":=")) _ k) [
        | inl e ↦ subst (λ (t : List ℕ). token_len (t ++ rest) ≡ length t) (sym ((bytes_eq-Decides t (codes ":=")).0 e)) refl
        | inr k ↦ elim (or_some (bytes_eq t (codes "=")) _ k) [
          | inl e ↦ subst (λ (t : List ℕ). token_len (t ++ rest) ≡ length t) (sym ((bytes_eq-Decides t (codes "=")).0 e)) refl
          | inr k ↦ elim (or_some (bytes_eq t (codes "+")) _ k) [
            | inl e ↦ subst (λ (t : List ℕ). token_len (t ++ rest) ≡ length t) (sym ((bytes_eq-Decides t (codes "+")).0 e)) refl
            | inr k ↦ elim (or_some (bytes_eq t (codes ";")) _ k) [
              | inl e ↦ subst (λ (t : List ℕ). token_len (t ++ rest) ≡ length t) (sym ((bytes_eq-Decides t (codes ";")).0 e)) refl
              | inr k ↦ cc
            ]
          ]
        ]
      ]
    ]

-- the length of a token at the front
len_token : (token rest : List ℕ) → is_token token ≡ true → IsLongest token rest → token_len (token ++ rest) ≡ length token
len_token [] rest some longest = cc
len_token (b ∷ w) rest some longest = kinds (is_letter b) (is_digit b) refl refl
  where
    kinds : (t u : Bool) → is_letter b ≡ t → is_digit b ≡ u → token_len (b ∷ w ++ rest) ≡ length (b ∷ w)
    kinds true u e f =
        let all : list_all is_name_byte w ≡ true = sym (letter_token b w e) ∙ some in
        rw (e, run_of is_name_byte w rest all (letter_stops b w rest e all longest)) (omega arith)
    kinds false true e f =
        let all : list_all is_digit w ≡ true = sym (digit_token b w f) ∙ some in
        rw (e, f, run_of is_digit w rest all (digit_stops b w rest f all longest)) (omega arith)
    kinds false false e f = len_sign (b ∷ w) rest (sym (other_token b w e f) ∙ some) longest

-- ---- what the descent cuts off is as long as it can be

and_false : (t : Bool) → (t && false) ≡ false
and_false true = refl
and_false false = refl

or_false : (t : Bool) → (t || false) ≡ t
or_false true = refl
or_false false = refl

no_sign : (b d c : ℕ) → list_any (bytes_eq (b ∷ d ∷ c ∷ [])) signs ≡ false
no_sign b d c = simp and_false

same_test : (b c : ℕ) → nat_eq b c ≡ nat_eq c b
same_test b c = grind (arith, nat_tests)

no_pair : (b c : ℕ) (rest : List ℕ) → starts_with nat_eq (b ∷ c ∷ rest) (codes ":=") ≡ false → list_any (bytes_eq (b ∷ c ∷ [])) signs ≡ false
no_pair b c rest h = simp and_false (rw (same_test b 58, same_test c 61) (or_false (nat_eq 58 b && (nat_eq 61 c && true)) ∙ h))

longest_cut : (xs : List ℕ) → IsLongest (take (token_len xs) xs) (drop (token_len xs) xs)
longest_cut [] = tt
longest_cut (b ∷ xs) = kinds (is_letter b) (is_digit b) refl refl
  where
    other : (xs : List ℕ) (t : Bool) → is_letter b ≡ false → is_digit b ≡ false → starts_with nat_eq (b ∷ xs) (codes ":=") ≡ t → IsLongest (take (if t then 2 else 1) (b ∷ xs)) (drop (if t then 2 else 1) (b ∷ xs))
    other [] true e f s = tt
    other [] false e f s = tt
    other (c ∷ []) true e f s = tt
    other (c ∷ d ∷ rest) true e f s = other_token b (c ∷ d ∷ []) e f ∙ no_sign b c d
    other (c ∷ rest) false e f s = other_token b (c ∷ []) e f ∙ no_pair b c rest s

    kinds : (t u : Bool) → is_letter b ≡ t → is_digit b ≡ u → IsLongest (take (token_len (b ∷ xs)) (b ∷ xs)) (drop (token_len (b ∷ xs)) (b ∷ xs))
    kinds true u e f =
        let n : 1 + run is_name_byte xs ≡ suc (run is_name_byte xs) = omega arith in
        rw (e, n) (longest_letter b (take (run is_name_byte xs) xs) (drop (run is_name_byte xs) xs) e (run_passes is_name_byte xs) (run_stops is_name_byte xs))
    kinds false true e f =
        let n : 1 + run is_digit xs ≡ suc (run is_digit xs) = omega arith in
        rw (e, f, n) (longest_digit b (take (run is_digit xs) xs) (drop (run is_digit xs) xs) f (run_passes is_digit xs) (run_stops is_digit xs))
    kinds false false e f = rw (e, f) (other xs (starts_with nat_eq (b ∷ xs) (codes ":=")) e f refl)

-- ---- the next token

no_space : (b : ℕ) (w : List ℕ) → is_token (b ∷ w) ≡ true → is_space b ≡ false
no_space b w some = step (is_space b) refl
  where
    at : (c : ℕ) → is_token (c ∷ w) ≡ false → nat_eq b c ≡ true → is_space b ≡ false
    at c none e =
        let is : b ≡ c = grind (arith, nat_tests) in
        let bad : is_token (c ∷ w) ≡ true = rw is at some in cc

    step : (t : Bool) → is_space b ≡ t → is_space b ≡ false
    step false e = e
    step true e = elim (or_some ((b == 32) || (b == 9) || (b == 13)) (b == 10) e) [ inr k ↦ at 10 refl k | inl k ↦ elim (or_some ((b == 32) || (b == 9)) (b == 13) k) [ inr k ↦ at 13 refl k | inl k ↦ elim (or_some (b == 32) (b == 9) k) [ inr k ↦ at 9 refl k | inl k ↦ at 32 refl k ] ] ]

token_stops : (token rest : List ℕ) → is_token token ≡ true → Stops is_space (token ++ rest)
token_stops [] rest some = cc
token_stops (b ∷ w) rest some = no_space b w some

-- what the descent finds at the front of a text is its next token
pub past_next : (text token rest : List ℕ) → IsNext text token rest → past_space text ≡ token ++ rest
past_next text token rest next =
    let len : run is_space (next.gap ++ (token ++ rest)) ≡ length next.gap = run_of is_space next.gap (token ++ rest) next.spaces (token_stops token rest next.some) in
    rw (next.is, len) (drop-append_seam next.gap (token ++ rest))

pub token_next : (text token rest : List ℕ) → IsNext text token rest → token_of text ≡ token
token_next text token rest next = rw (past_next text token rest next, len_token token rest next.some next.longest) (take-append_seam token rest)

pub behind_next : (text token rest : List ℕ) → IsNext text token rest → behind_token text ≡ rest
behind_next text token rest next = rw (past_next text token rest next, len_token token rest next.some next.longest) (drop-append_seam token rest)

-- a token that the descent finds is the next one
pub next_cut : (text : List ℕ) → is_token (token_of text) ≡ true → IsNext text (token_of text) (behind_token text)
next_cut text some = record {
  gap = take (run is_space text) text;
  spaces = run_passes is_space text;
  is = sym (ap (λ (l : List ℕ). take (run is_space text) text ++ l) (take-append-drop (token_len (past_space text)) (past_space text)) ∙ take-append-drop (run is_space text) text);
  some = some;
  longest = longest_cut (past_space text);
}

-- ---- the end of a text

token_some : (b : ℕ) (xs : List ℕ) → 0 < token_len (b ∷ xs)
token_some b xs = step (is_letter b) (is_digit b) (starts_with nat_eq (b ∷ xs) (codes ":="))
  where
    step : (t u v : Bool) → 0 < (if t then 1 + run is_name_byte xs else if u then 1 + run is_digit xs else if v then 2 else 1)
    step true u v = omega arith
    step false true v = omega arith
    step false false true = omega arith
    step false false false = omega arith

taken_some : (n b : ℕ) (xs : List ℕ) → 0 < n → take n (b ∷ xs) ≡ [] → ⊥
taken_some zero b xs some none = omega arith
taken_some (suc n) b xs some none = cc

pub end_next : (text : List ℕ) → list_all is_space text ≡ true → token_of text ≡ []
end_next text spaces =
    let e : text ++ [] ≡ text = append-nil text in
    let long : run is_space (text ++ []) ≡ length text = run_of is_space text [] spaces tt in
    let len : run is_space text ≡ length text = rw e at long in
    let none : past_space text ≡ [] = drop_all (run is_space text) text (omega arith) in
    rw none refl

pub end_cut : (text : List ℕ) → token_of text ≡ [] → list_all is_space text ≡ true
end_cut text none = step (past_space text) refl
  where
    step : (p : List ℕ) → past_space text ≡ p → list_all is_space text ≡ true
    step [] e =
        let all : take (run is_space text) text ≡ text =
        sym (append-nil (take (run is_space text) text)) ∙ ap (λ (l : List ℕ). take (run is_space text) text ++ l) (sym e) ∙ take-append-drop (run is_space text) text in
        rw all at (run_passes is_space text)
    step (b ∷ xs) e = absurd (taken_some (token_len (b ∷ xs)) b xs (token_some b xs) (rw e at none))

-- ---- a token that begins with a letter is a word

begins_taken : (n b : ℕ) (xs : List ℕ) → begins_letter (take n (b ∷ xs)) ≡ true → is_letter b ≡ true
begins_taken zero b xs h = cc
begins_taken (suc n) b xs h = h

word_front : (xs : List ℕ) → begins_letter (take (token_len xs) xs) ≡ true → is_word (take (token_len xs) xs) ≡ true
word_front [] h = h
word_front (b ∷ xs) h =
    let e : is_letter b ≡ true = begins_taken (token_len (b ∷ xs)) b xs h in
    let n : 1 + run is_name_byte xs ≡ suc (run is_name_byte xs) = omega arith in
    rw (e, n, e) (run_passes is_name_byte xs)

pub word_cut : (text : List ℕ) → begins_letter (token_of text) ≡ true → is_word (token_of text) ≡ true
word_cut text h = word_front (past_space text) h
