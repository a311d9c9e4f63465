-- A string in quotes is read as what it stands for.
use Rattle.std.proofs.Common.{inl, inr, ◌≡◌, ◌⊎◌, ℕ, ◌+◌, ◌-◌, ◌^◌, ◌≤◌, ◌==◌, Bool, true, false, cond, List, [], ◌∷◌, ◌++◌, length, take, drop, Some, None, refl, sym, ap, ◌∙◌, subst, append_assoc, length-append, flat_map, arith, nat_lt}
use Rattle.std.specs.Prelude.{codes, encode_utf8}
use Rattle.std.specs.List.{AllByRecursion}
use Rattle.std.proofs.Math.Seq.{take-append_seam}
use Rattle.std.proofs.Math.Utf8.{encode}
use Rattle.std.proofs.lemmas.Bool.{cond-true, ne_eqb, eqb-true, eqb-false, le-ltb, lt-ltb}
use Rattle.std.proofs.lemmas.Str.{encode_ascii}
use Rattle.b_lex.specs.declared.tokens.TokenKind.TheVariants as kind
use Rattle.b_lex.specs.declared.tokens.Token.{Token}
use Rattle.b_lex.specs.Reading.{Reads}
use Rattle.b_lex.specs.Strings.{IsBody, is_plain, escape_of}
use Rattle.b_grammar.specs.declared.Symbol.TheVariants as symbol
use Rattle.b_lex.specs.Spelling.{unescape as value_from}
use Rattle.b_grammar.specs.Symbols.{between}
use Rattle.b_print.specs.Texts.{spelling_of, quoted}
use Rattle.b_reading_back.specs.Printable.{IsStringValue}
use Rattle.b_reading_back.proofs.Lexing.{Lexes, IsTaken, Any, token}

-- a byte that stands for itself in a string
abbrev Calm : ℕ → Type 0
Calm b = (b ≡ 34 → ⊥) × (b ≡ 92 → ⊥) × (b ≡ 10 → ⊥) × (b ≡ 9 → ⊥)

big : (b : ℕ) → 128 ≤ b → Calm b
big b h = (λ e. omega arith, λ e. omega arith, λ e. omega arith, λ e. omega arith)

calm_spelling : (b : ℕ) → Calm b → spelling_of b ≡ b ∷ []
calm_spelling b h = rw (ne_eqb b 34 h.0, ne_eqb b 92 h.1, ne_eqb b 10 h.2, ne_eqb b 9 h.3) refl

bytes_by : (x y z : Bool) (c b₀ b₁ c₀ c₁ c₂ d₀ d₁ d₂ d₃ : ℕ) → Calm c → Calm b₀ → Calm b₁ → Calm c₀ → Calm c₁ → Calm c₂ → Calm d₀ → Calm d₁ → Calm d₂ → Calm d₃
    → AllByRecursion Calm (cond x (c ∷ []) (cond y (b₀ ∷ b₁ ∷ []) (cond z (c₀ ∷ c₁ ∷ c₂ ∷ []) (d₀ ∷ d₁ ∷ d₂ ∷ d₃ ∷ []))))
bytes_by true y z c b₀ b₁ c₀ c₁ c₂ d₀ d₁ d₂ d₃ h i₀ i₁ j₀ j₁ j₂ k₀ k₁ k₂ k₃ = (h, tt)
bytes_by false true z c b₀ b₁ c₀ c₁ c₂ d₀ d₁ d₂ d₃ h i₀ i₁ j₀ j₁ j₂ k₀ k₁ k₂ k₃ = (i₀, (i₁, tt))
bytes_by false false true c b₀ b₁ c₀ c₁ c₂ d₀ d₁ d₂ d₃ h i₀ i₁ j₀ j₁ j₂ k₀ k₁ k₂ k₃ = (j₀, (j₁, (j₂, tt)))
bytes_by false false false c b₀ b₁ c₀ c₁ c₂ d₀ d₁ d₂ d₃ h i₀ i₁ j₀ j₁ j₂ k₀ k₁ k₂ k₃ = (k₀, (k₁, (k₂, (k₃, tt))))

calm_bytes : (c : ℕ) → Calm c → AllByRecursion Calm (encode c)
unfolding encode
calm_bytes c h =
    bytes_by (nat_lt c 128) (nat_lt c 2048) (nat_lt c 65536) c _ _ _ _ _ _ _ _ _ h
    (big _ (omega arith)) (big _ (omega arith)) (big _ (omega arith)) (big _ (omega arith)) (big _ (omega arith))
    (big _ (omega arith)) (big _ (omega arith)) (big _ (omega arith)) (big _ (omega arith))

flat_calm : (bs : List ℕ) → AllByRecursion Calm bs → flat_map spelling_of bs ≡ bs
flat_calm [] h = refl
flat_calm (b ∷ bs) h = ap (λ (l : List ℕ). l ++ flat_map spelling_of bs) (calm_spelling b h.0) ∙ ap (λ (l : List ℕ). b ∷ l) (flat_calm bs h.1)

flat_append : (xs ys : List ℕ) → flat_map spelling_of (xs ++ ys) ≡ flat_map spelling_of xs ++ flat_map spelling_of ys
flat_append [] ys = refl
flat_append (x ∷ xs) ys = ap (λ (l : List ℕ). spelling_of x ++ l) (flat_append xs ys) ∙ sym (append_assoc (spelling_of x) (flat_map spelling_of xs) (flat_map spelling_of ys))

-- the escapes stand for these bytes
escapes : (letter b : ℕ) → escape_of letter ≡ Some b → (b ≡ 34) ⊎ ((b ≡ 92) ⊎ ((b ≡ 10) ⊎ (b ≡ 9)))
escapes letter b e = quote (letter == 34) e
  where
    tab : (t : Bool) → cond t (Some 9) None ≡ Some b → (b ≡ 34) ⊎ ((b ≡ 92) ⊎ ((b ≡ 10) ⊎ (b ≡ 9)))
    tab true e = let same : 9 ≡ b = cc in inr (inr (inr (sym same)))
    tab false e = absurd (cc)

    line : (t : Bool) → cond t (Some 10) (cond (letter == 116) (Some 9) None) ≡ Some b → (b ≡ 34) ⊎ ((b ≡ 92) ⊎ ((b ≡ 10) ⊎ (b ≡ 9)))
    line true e = let same : 10 ≡ b = cc in inr (inr (inl (sym same)))
    line false e = tab (letter == 116) e

    slash : (t : Bool) → cond t (Some 92) (cond (letter == 110) (Some 10) (cond (letter == 116) (Some 9) None)) ≡ Some b → (b ≡ 34) ⊎ ((b ≡ 92) ⊎ ((b ≡ 10) ⊎ (b ≡ 9)))
    slash true e = let same : 92 ≡ b = cc in inr (inl (sym same))
    slash false e = line (letter == 110) e

    quote : (t : Bool) → cond t (Some 34) (cond (letter == 92) (Some 92) (cond (letter == 110) (Some 10) (cond (letter == 116) (Some 9) None))) ≡ Some b → (b ≡ 34) ⊎ ((b ≡ 92) ⊎ ((b ≡ 10) ⊎ (b ≡ 9)))
    quote true e = let same : 34 ≡ b = cc in inl (sym same)
    quote false e = slash (letter == 92) e

plain_apart : (c k : ℕ) → is_plain c ≡ true → is_plain k ≡ false → c ≡ k → ⊥
plain_apart c k p q e = let same : is_plain c ≡ is_plain k = ap is_plain e in cc

body_is : (body s : List ℕ) → IsBody body s → IsBody (flat_map spelling_of s) s
body_is body s IsBody.empty = IsBody.empty
body_is body s (IsBody.plain c rest value scalar p more) = go (c == 9) refl (body_is rest value more)
  where
    go : (t : Bool) → (c == 9) ≡ t → IsBody (flat_map spelling_of value) value → IsBody (flat_map spelling_of (encode_utf8 c ++ value)) (encode_utf8 c ++ value)
    go true e h =
        let tab : encode_utf8 c ≡ 9 ∷ [] = ap encode_utf8 (eqb-true c 9 e) ∙ encode_ascii 9 (omega arith) in
        subst (λ (l : List ℕ). IsBody (flat_map spelling_of (l ++ value)) (l ++ value)) (sym tab) (IsBody.escaped 116 9 (flat_map spelling_of value) value refl h)
    go false e h =
        let calm : Calm c = (plain_apart c 34 p refl, plain_apart c 92 p refl, plain_apart c 10 p refl, eqb-false c 9 e) in
        let same : flat_map spelling_of (encode_utf8 c ++ value) ≡ encode_utf8 c ++ flat_map spelling_of value =
        flat_append (encode_utf8 c) value ∙ ap (λ (l : List ℕ). l ++ flat_map spelling_of value) (flat_calm (encode_utf8 c) (calm_bytes c calm)) in
        subst (λ (l : List ℕ). IsBody l (encode_utf8 c ++ value)) (sym same) (IsBody.plain c (flat_map spelling_of value) value scalar p h)
body_is body s (IsBody.escaped letter b rest value e more) =
    elim (escapes letter b e) [
      | inl i ↦ at_byte b 34 i (IsBody.escaped 34 34 (flat_map spelling_of value) value refl (body_is rest value more))
      | inr k ↦ (elim k [
        | inl i ↦ at_byte b 92 i (IsBody.escaped 92 92 (flat_map spelling_of value) value refl (body_is rest value more))
        | inr l ↦ (elim l [
          | inl i ↦ at_byte b 10 i (IsBody.escaped 110 10 (flat_map spelling_of value) value refl (body_is rest value more))
          | inr i ↦ at_byte b 9 i (IsBody.escaped 116 9 (flat_map spelling_of value) value refl (body_is rest value more))
        ])
      ])
    ]
  where
    at_byte : (x k : ℕ) → x ≡ k → IsBody (flat_map spelling_of (k ∷ value)) (k ∷ value) → IsBody (flat_map spelling_of (x ∷ value)) (x ∷ value)
    at_byte x k i h = subst (λ (y : ℕ). IsBody (flat_map spelling_of (y ∷ value)) (y ∷ value)) (sym i) h

-- a spelled string stands for itself
value_back : (s : List ℕ) → value_from false (flat_map spelling_of s) ≡ s
value_back [] = refl
value_back (b ∷ s) = quote (b == 34) refl ∙ ap (λ (l : List ℕ). b ∷ l) (value_back s)
  where
    plain : (t : Bool) → (b == 92) ≡ t → (b ≡ 92 → ⊥) → value_from false (b ∷ flat_map spelling_of s) ≡ b ∷ value_from false (flat_map spelling_of s)
    plain true e h = absurd (h (eqb-true b 92 e))
    plain false e h = ap (λ (t : Bool). cond t (value_from true (flat_map spelling_of s)) (b ∷ value_from false (flat_map spelling_of s))) e

    tab : (b ≡ 92 → ⊥) → (t : Bool) → (b == 9) ≡ t → value_from false (cond t (codes "\\t") (b ∷ []) ++ flat_map spelling_of s) ≡ b ∷ value_from false (flat_map spelling_of s)
    tab h true e = ap (λ (x : ℕ). x ∷ value_from false (flat_map spelling_of s)) (sym (eqb-true b 9 e))
    tab h false e = plain (b == 92) refl h

    line : (b ≡ 92 → ⊥) → (t : Bool) → (b == 10) ≡ t → value_from false (cond t (codes "\\n") (cond (b == 9) (codes "\\t") (b ∷ [])) ++ flat_map spelling_of s) ≡ b ∷ value_from false (flat_map spelling_of s)
    line h true e = ap (λ (x : ℕ). x ∷ value_from false (flat_map spelling_of s)) (sym (eqb-true b 10 e))
    line h false e = tab h (b == 9) refl

    slash : (t : Bool) → (b == 92) ≡ t → value_from false (cond t (codes "\\\\") (cond (b == 10) (codes "\\n") (cond (b == 9) (codes "\\t") (b ∷ []))) ++ flat_map spelling_of s) ≡ b ∷ value_from false (flat_map spelling_of s)
    slash true e = ap (λ (x : ℕ). x ∷ value_from false (flat_map spelling_of s)) (sym (eqb-true b 92 e))
    slash false e = line (eqb-false b 92 e) (b == 10) refl

    quote : (t : Bool) → (b == 34) ≡ t
        → value_from false (cond t (codes "\\\"") (cond (b == 92) (codes "\\\\") (cond (b == 10) (codes "\\n") (cond (b == 9) (codes "\\t") (b ∷ [])))) ++ flat_map spelling_of s) ≡ b ∷ value_from false (flat_map spelling_of s)
    quote true e = ap (λ (x : ℕ). x ∷ value_from false (flat_map spelling_of s)) (sym (eqb-true b 34 e))
    quote false e = slash (b == 92) refl

long_is : (body : List ℕ) → length (34 ∷ (body ++ 34 ∷ [])) ≡ length body + 2
long_is body = omega (arith, length-append body (34 ∷ []))

between_is : (body : List ℕ) → between (34 ∷ (body ++ 34 ∷ [])) ≡ body
between_is body =
    let many : nat_lt (length (34 ∷ (body ++ 34 ∷ []))) 2 ≡ false = le-ltb (length (34 ∷ (body ++ 34 ∷ []))) 2 (omega (arith, long_is body)) in
    let inside : (length (34 ∷ (body ++ 34 ∷ [])) - 1) - 1 ≡ length body = omega (arith, long_is body) in
    ap (λ (t : Bool). cond t [] (take ((length (34 ∷ (body ++ 34 ∷ [])) - 1) - 1) (body ++ 34 ∷ []))) many
    ∙ ap (λ (n : ℕ). take n (body ++ 34 ∷ [])) inside ∙ take-append_seam body (34 ∷ [])

pub string_reads : (s : List ℕ) → IsStringValue s → Lexes Any (quoted s) (symbol.Text s ∷ [])
string_reads s v =
    token Any kind.Text (quoted s) (symbol.Text s) (ap (λ (l : List ℕ). symbol.Text (value_from false l)) (between_is (flat_map spelling_of s)) ∙ ap (λ (l : List ℕ). symbol.Text l) (value_back s)) (λ rest f. begins rest)
  where
    begins : (rest : List ℕ) → IsTaken kind.Text (quoted s) rest
    begins rest =
        subst
        (λ (n : ℕ). (at : ℕ) (tokens : List Token) → Reads (at + n) (drop n (quoted s ++ rest)) tokens None → Reads at (quoted s ++ rest) (record { kind = kind.Text; from = at; to = at + n } ∷ tokens) None)
        (sym (long_is (flat_map spelling_of s)))
        (λ at tokens r.
        Reads.takes at (length (flat_map spelling_of s) + 2) kind.Text (quoted s ++ rest) tokens None
        (record {
          body = flat_map spelling_of s;
          value = s;
          after = 34 ∷ rest;
          is = append_assoc (flat_map spelling_of s) (34 ∷ []) rest;
          stands = body_is v.body s v.stands;
          ends = sym (cond-true (nat_lt (length s) (2 ^ 32)) _ _ (lt-ltb (length s) (2 ^ 32) v.fits));
        })
        r)
