-- What a string stands for, byte by byte.
use Rattle.std.proofs.Common.{◌≡◌, ◌∙◌, ap, subst, refl, ℕ, ◌-◌, ◌<◌, Bool, true, false, cond, Some, None, List, [], ◌∷◌, ◌++◌, length, take, arith, length-append}
use Rattle.std.specs.Prelude.{encode_utf8, nat_lt, ◌==◌, not, unwrap_or}
use Rattle.std.specs.List.{list_all}
use Rattle.std.specs.Str.{IsUtf8}
use Rattle.std.proofs.Math.Utf8.{encode, low_scalar}
use Rattle.std.proofs.lemmas.Bool.{and_parts, ne_eqb, not-true, not_from_false}
use Rattle.std.proofs.lemmas.Str.{IsUtf8-append, IsUtf8-encode, IsUtf8-nil, encode_ascii}
use Rattle.std.proofs.Math.Seq.{take-append_seam}
use Rattle.b_lex.specs.Strings.{IsBody, is_plain, escape_of}
use Rattle.b_lex.specs.Spelling.{IsText, unescape, inside_of}

abbrev no_slash : ℕ → Bool
no_slash b = not (b == 92)

other : (b : ℕ) → (b ≡ 92 → ⊥) → no_slash b ≡ true
other b apart = not_from_false (b == 92) (ne_eqb b 92 apart)

-- bytes without a backslash stand for themselves
copied : (xs ys : List ℕ) → list_all no_slash xs ≡ true → unescape false (xs ++ ys) ≡ xs ++ unescape false ys
copied [] ys all = refl
copied (x ∷ xs) ys all =
    let parts = and_parts (no_slash x) (list_all no_slash xs) all in
    ap (λ t. cond t (unescape true (xs ++ ys)) (x ∷ unescape false (xs ++ ys))) (not-true (x == 92) parts.0) ∙ ap (λ t. x ∷ t) (copied xs ys parts.1)

bytes_by : (x y z : Bool) (c b₀ b₁ c₀ c₁ c₂ d₀ d₁ d₂ d₃ : ℕ) → (x ≡ true → no_slash c ≡ true)
    → no_slash b₀ ≡ true → no_slash b₁ ≡ true → no_slash c₀ ≡ true → no_slash c₁ ≡ true → no_slash c₂ ≡ true → no_slash d₀ ≡ true → no_slash d₁ ≡ true → no_slash d₂ ≡ true → no_slash d₃ ≡ true
    → list_all no_slash (cond x (c ∷ []) (cond y (b₀ ∷ b₁ ∷ []) (cond z (c₀ ∷ c₁ ∷ c₂ ∷ []) (d₀ ∷ d₁ ∷ d₂ ∷ d₃ ∷ [])))) ≡ true
bytes_by true y z c b₀ b₁ c₀ c₁ c₂ d₀ d₁ d₂ d₃ h i₀ i₁ j₀ j₁ j₂ k₀ k₁ k₂ k₃ = rw (h refl) refl
bytes_by false true z c b₀ b₁ c₀ c₁ c₂ d₀ d₁ d₂ d₃ h i₀ i₁ j₀ j₁ j₂ k₀ k₁ k₂ k₃ = rw (i₀, i₁) refl
bytes_by false false true c b₀ b₁ c₀ c₁ c₂ d₀ d₁ d₂ d₃ h i₀ i₁ j₀ j₁ j₂ k₀ k₁ k₂ k₃ = rw (j₀, j₁, j₂) refl
bytes_by false false false c b₀ b₁ c₀ c₁ c₂ d₀ d₁ d₂ d₃ h i₀ i₁ j₀ j₁ j₂ k₀ k₁ k₂ k₃ = rw (k₀, k₁, k₂, k₃) refl

plain_no_slash : (c : ℕ) → is_plain c ≡ true → c ≡ 92 → ⊥
plain_no_slash c plain is = let special : is_plain c ≡ false = ap is_plain is in cc

-- no byte of a plain character is a backslash
no_slashes : (c : ℕ) → is_plain c ≡ true → list_all no_slash (encode c) ≡ true
unfolding encode
no_slashes c plain =
    bytes_by (nat_lt c 128) (nat_lt c 2048) (nat_lt c 65536) c _ _ _ _ _ _ _ _ _
    (λ _. other c (plain_no_slash c plain))
    (other _ (λ e. omega arith)) (other _ (λ e. omega arith)) (other _ (λ e. omega arith)) (other _ (λ e. omega arith)) (other _ (λ e. omega arith))
    (other _ (λ e. omega arith)) (other _ (λ e. omega arith)) (other _ (λ e. omega arith)) (other _ (λ e. omega arith))

body_value : (body value : List ℕ) → IsBody body value → unescape false body ≡ value
body_value body value IsBody.empty = refl
body_value body value (IsBody.plain c rest more s p front) = copied (encode_utf8 c) rest (no_slashes c p) ∙ ap (λ t. encode_utf8 c ++ t) (body_value rest more front)
body_value body value (IsBody.escaped letter b rest more e front) = ap (λ o. unwrap_or o letter ∷ unescape false rest) e ∙ ap (λ t. b ∷ t) (body_value rest more front)

pub text_inside : (bytes value : List ℕ) → IsText bytes value → unescape false (inside_of bytes) ≡ value
text_inside bytes value text =
    let long : length (34 ∷ (text.body ++ 34 ∷ [])) - 2 ≡ length text.body = omega (arith, length-append text.body (34 ∷ [])) in
    let inside : inside_of bytes ≡ text.body = ap inside_of text.is ∙ ap (λ n. take n (text.body ++ 34 ∷ [])) long ∙ take-append_seam text.body (34 ∷ []) in
    ap (unescape false) inside ∙ body_value text.body value text.stands

escape_small : (letter b : ℕ) → escape_of letter ≡ Some b → b < 128
escape_small letter b e = by_quote (letter == 34) e
  where
    by_tab : (t : Bool) → cond t (Some 9) None ≡ Some b → b < 128
    by_tab true e = let is : 9 ≡ b = cc in omega arith
    by_tab false e = absurd (cc)

    by_line : (t : Bool) → cond t (Some 10) (cond (letter == 116) (Some 9) None) ≡ Some b → b < 128
    by_line true e = let is : 10 ≡ b = cc in omega arith
    by_line false e = by_tab (letter == 116) e

    by_slash : (t : Bool) → cond t (Some 92) (cond (letter == 110) (Some 10) (cond (letter == 116) (Some 9) None)) ≡ Some b → b < 128
    by_slash true e = let is : 92 ≡ b = cc in omega arith
    by_slash false e = by_line (letter == 110) e

    by_quote : (t : Bool) → cond t (Some 34) (cond (letter == 92) (Some 92) (cond (letter == 110) (Some 10) (cond (letter == 116) (Some 9) None))) ≡ Some b → b < 128
    by_quote true e = let is : 34 ≡ b = cc in omega arith
    by_quote false e = by_slash (letter == 92) e

body_utf8 : (body value : List ℕ) → IsBody body value → IsUtf8 value
body_utf8 body value IsBody.empty = IsUtf8-nil
body_utf8 body value (IsBody.plain c rest more s p front) = IsUtf8-append (encode_utf8 c) more (IsUtf8-encode c s) (body_utf8 rest more front)
body_utf8 body value (IsBody.escaped letter b rest more e front) =
    let small : b < 128 = escape_small letter b e in
    IsUtf8-append (b ∷ []) more (subst IsUtf8 (encode_ascii b small) (IsUtf8-encode b (low_scalar b (omega arith)))) (body_utf8 rest more front)

pub text_utf8 : (bytes value : List ℕ) → IsText bytes value → IsUtf8 value
text_utf8 bytes value text = body_utf8 text.body value text.stands
