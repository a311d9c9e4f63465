-- The lexemes of a text are good: its names are names, its numbers aren't too wide, and its strings stand for values.
use Rattle.std.proofs.Common.{◌≡◌, ◌∙◌, ap, sym, subst, refl, ℕ, ◌-◌, ◌^◌, ◌≤◌, ◌<◌, ◌==◌, Bool, true, false, cond, Option, Some, List, [], ◌∷◌, ◌++◌, length, take, arith, length-append, nat_lt}
use Rattle.std.specs.Prelude.{encode_utf8, not, nat_le, unwrap_or}
use Rattle.std.specs.List.{list_all, AllByRecursion}
use Rattle.std.proofs.Math.Utf8.{encode}
use Rattle.std.proofs.Math.Seq.{take-append_seam}
use Rattle.std.proofs.lemmas.Bool.{and_parts, ne_eqb, not-true, not_from_false, le-ltb}
use Rattle.b_lex.specs.declared.tokens.Token.{Token}
use Rattle.b_lex.specs.declared.tokens.TokenKind.{TokenKind}
use Rattle.b_lex.specs.declared.tokens.TokenKind.TheVariants as kind
use Rattle.b_lex.specs.Bytes.{decimal}
use Rattle.b_lex.specs.Strings.{IsBody, is_plain, escape_of}
use Rattle.b_lex.specs.Spelling.{unescape as value_from, IsText, IsSpelled, AreSpelled}
use Rattle.b_lex.specs.Reading.{AreTokens, spelling}
use Rattle.b_lex.proofs.Spelled.{tokens_spelled}
use Rattle.b_grammar.specs.declared.Symbol.{Symbol}
use Rattle.b_grammar.specs.declared.Symbol.TheVariants as symbol
use Rattle.b_grammar.specs.declared.Lexeme.{Lexeme}
use Rattle.b_grammar.specs.declared.symbols.Fixed.{Fixed}
use Rattle.b_grammar.specs.declared.symbols.Fixed.TheVariants as fixed
use Rattle.b_grammar.specs.Symbols.{string_value, between, number_symbol, fixed_of, symbol_of_fixed, symbol_of, depth_after, lexemes_from, lexemes}
use Rattle.b_reading_back.specs.Printable.{IsName, IsStringValue}

-- what a tree may take from a symbol
abbrev pub IsGood : Symbol → Type 0
IsGood (symbol.Name x) = IsName x
IsGood (symbol.Number n) = n ≤ 2 ^ 127 - 1
IsGood (symbol.Text s) = IsStringValue s
IsGood z = Unit {0}

-- lexemes with good symbols
abbrev pub AreGood : List Lexeme → Type 0
AreGood ts = AllByRecursion (λ (s : Lexeme). IsGood s.symbol) ts

-- ---- strings

-- a byte that is no backslash
abbrev no_slash : ℕ → Bool
no_slash b = not (b == 92)

-- a byte apart from a backslash is none
other : (b : ℕ) → (b ≡ 92 → ⊥) → no_slash b ≡ true
other b apart = not_from_false (b == 92) (ne_eqb b 92 apart)

-- bytes without a backslash stand for themselves
copied : (xs ys : List ℕ) → list_all no_slash xs ≡ true → value_from false (xs ++ ys) ≡ xs ++ value_from false ys
copied [] ys all = refl
copied (x ∷ xs) ys all =
    let parts = and_parts (no_slash x) (list_all no_slash xs) all in
    ap (λ t. cond t (value_from true (xs ++ ys)) (x ∷ value_from false (xs ++ ys))) (not-true (x == 92) parts.0) ∙ ap (λ t. x ∷ t) (copied xs ys parts.1)

-- the bytes of a character have no backslash where each of them has none
bytes_by : (x y z : Bool) (c b₀ b₁ c₀ c₁ c₂ d₀ d₁ d₂ d₃ : ℕ) → no_slash c ≡ true
    → no_slash b₀ ≡ true → no_slash b₁ ≡ true → no_slash c₀ ≡ true → no_slash c₁ ≡ true → no_slash c₂ ≡ true → no_slash d₀ ≡ true → no_slash d₁ ≡ true → no_slash d₂ ≡ true → no_slash d₃ ≡ true
    → list_all no_slash (cond x (c ∷ []) (cond y (b₀ ∷ b₁ ∷ []) (cond z (c₀ ∷ c₁ ∷ c₂ ∷ []) (d₀ ∷ d₁ ∷ d₂ ∷ d₃ ∷ [])))) ≡ true
bytes_by true y z c b₀ b₁ c₀ c₁ c₂ d₀ d₁ d₂ d₃ h i₀ i₁ j₀ j₁ j₂ k₀ k₁ k₂ k₃ = rw h refl
bytes_by false true z c b₀ b₁ c₀ c₁ c₂ d₀ d₁ d₂ d₃ h i₀ i₁ j₀ j₁ j₂ k₀ k₁ k₂ k₃ = rw (i₀, i₁) refl
bytes_by false false true c b₀ b₁ c₀ c₁ c₂ d₀ d₁ d₂ d₃ h i₀ i₁ j₀ j₁ j₂ k₀ k₁ k₂ k₃ = rw (j₀, j₁, j₂) refl
bytes_by false false false c b₀ b₁ c₀ c₁ c₂ d₀ d₁ d₂ d₃ h i₀ i₁ j₀ j₁ j₂ k₀ k₁ k₂ k₃ = rw (k₀, k₁, k₂, k₃) refl

-- a plain character is no backslash
plain_no_slash : (c : ℕ) → is_plain c ≡ true → c ≡ 92 → ⊥
plain_no_slash c plain is = let special : is_plain c ≡ false = ap is_plain is in cc

-- no byte of a plain character is a backslash
no_slashes : (c : ℕ) → is_plain c ≡ true → list_all no_slash (encode c) ≡ true
unfolding encode
no_slashes c plain =
    bytes_by (nat_lt c 128) (nat_lt c 2048) (nat_lt c 65536) c _ _ _ _ _ _ _ _ _
    (other c (plain_no_slash c plain))
    (other _ (λ e. omega arith)) (other _ (λ e. omega arith)) (other _ (λ e. omega arith)) (other _ (λ e. omega arith)) (other _ (λ e. omega arith))
    (other _ (λ e. omega arith)) (other _ (λ e. omega arith)) (other _ (λ e. omega arith)) (other _ (λ e. omega arith))

-- what a letter behind a backslash stands for, where it stands for something
letter_value : (letter b : ℕ) → escape_of letter ≡ Some b → unwrap_or (escape_of letter) letter ≡ b
letter_value letter b e = ap (λ (o : Option ℕ). unwrap_or o letter) e

-- bytes between quotes have the value that they stand for
body_value : (body value : List ℕ) → IsBody body value → value_from false body ≡ value
body_value body value IsBody.empty = refl
body_value body value (IsBody.plain c rest more s p front) = copied (encode_utf8 c) rest (no_slashes c p) ∙ ap (λ t. encode_utf8 c ++ t) (body_value rest more front)
body_value body value (IsBody.escaped letter b rest more e front) = ap (λ x. x ∷ value_from false rest) (letter_value letter b e) ∙ ap (λ t. b ∷ t) (body_value rest more front)

-- between its quotes a string has its body
between_quotes : (body : List ℕ) → between (34 ∷ (body ++ 34 ∷ [])) ≡ body
between_quotes body =
    let long : length (34 ∷ (body ++ 34 ∷ [])) - 1 - 1 ≡ length body = omega (arith, length-append body (34 ∷ [])) in
    let two : nat_lt (length (34 ∷ (body ++ 34 ∷ []))) 2 ≡ false = le-ltb (length (34 ∷ (body ++ 34 ∷ []))) 2 (omega (arith, length-append body (34 ∷ []))) in
    ap (λ (t : Bool). cond t [] (take (length (34 ∷ (body ++ 34 ∷ [])) - 1 - 1) (body ++ 34 ∷ []))) two ∙ ap (λ n. take n (body ++ 34 ∷ [])) long ∙ take-append_seam body (34 ∷ [])

-- a string's symbol has a value that some string stands for
string_good : (word value : List ℕ) → IsText word value → length value < 2 ^ 32 → IsStringValue (string_value (between word))
string_good word value text fits =
    let inside : between word ≡ text.body = ap between text.is ∙ between_quotes text.body in
    let is : string_value (between word) ≡ value = ap string_value inside ∙ body_value text.body value text.stands in
    subst IsStringValue (sym is) (record { body = text.body; stands = text.stands; fits = fits })

-- ---- symbols

-- a number's symbol is a number that isn't too wide
number_good : (n : ℕ) → n ≤ 2 ^ 127 - 1 → IsGood (number_symbol n)
number_good n h = by_test (nat_le n (2 ^ 127 - 1))
  where
    by_test : (t : Bool) → IsGood (cond t (symbol.Number n) symbol.Other)
    by_test true = h
    by_test false = tt

-- a sign or a word has no value
fixed_good : (f : Fixed) → IsGood (symbol_of_fixed f)
fixed_good (fixed.Constant c) = tt
fixed_good (fixed.Operator o) = tt
fixed_good (fixed.Function f) = tt
fixed_good (fixed.Quantifier q) = tt
fixed_good (fixed.Collector c) = tt
fixed_good (fixed.Mark m) = tt
fixed_good fixed.Other = tt

-- a token that is spelled as its kind says has a good symbol
symbol_good : (k : TokenKind) (word : List ℕ) → IsSpelled k word → IsGood (symbol_of k word)
symbol_good kind.Name word h = h
symbol_good kind.Number word h = number_good (decimal word) h.1
symbol_good kind.Text word h = string_good word h.0 h.1 h.2
symbol_good kind.Word word h = fixed_good (fixed_of word)
symbol_good kind.Sign word h = fixed_good (fixed_of word)

-- ---- lexemes

-- tokens that are spelled as their kinds say have good lexemes
spelled_good : (machine : Bool) (text : List ℕ) (depth : ℕ) (tokens : List Token) → AreSpelled text tokens → AreGood (lexemes_from machine text depth tokens)
spelled_good machine text depth [] h = tt
spelled_good machine text depth (token ∷ tokens) h = (symbol_good token.kind (spelling text token) h.0, spelled_good machine text (depth_after (spelling text token) depth) tokens h.1)

-- the lexemes of a text are good
pub good_lexemes : (machine : Bool) (text : List ℕ) (tokens : List Token) → AreTokens text tokens → AreGood (lexemes machine text tokens)
good_lexemes machine text tokens r = spelled_good machine text 0 tokens (tokens_spelled text tokens r)
