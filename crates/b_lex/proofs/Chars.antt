-- The character at the front of a text.
use Rattle.std.proofs.Common.{◌≡◌, ◌∙◌, ap, sym, subst, refl, ℕ, ◌+◌, ◌/◌, ◌<◌, ◌≤◌, Bool, true, false, cond, List, [], ◌∷◌, ◌++◌, length, take, drop, get_or, arith, append_assoc, length-append, inl, inr}
use Rattle.std.specs.Prelude.{nat_lt}
use Rattle.std.specs.Char.{IsScalar, len_utf8}
use Rattle.std.specs.Str.{IsUtf8, StartsWithNoChar, continuation_len}
use Rattle.std.proofs.Math.Utf8.{encode, encodes, scalar, scalars, scalar_cases}
use Rattle.std.proofs.lemmas.Bool.{lt-ltb, le-ltb, ltb-true, and_parts}
use Rattle.std.proofs.lemmas.List.{take-append-drop, length-take-le}
use Rattle.std.proofs.Math.Seq.{take-append_seam, drop-append_seam}
use Rattle.std.proofs.lemmas.Str.{length-encode, len_utf8_bounds, IsUtf8-encode}
use Rattle.b_lex.specs.Strings.{BeginsChar}

below_top : (c : ℕ) → IsScalar c → c < 1114112
below_top c s = elim (scalar_cases c s) [ inl h ↦ omega arith | inr h ↦ omega (arith, h.1) ]

abbrev first_byte : ℕ → ℕ
first_byte c = cond (nat_lt c 128) c (cond (nat_lt c 2048) (192 + c / 64) (cond (nat_lt c 65536) (224 + c / 4096) (240 + c / 262144)))

head_by : (x y z : Bool) (a b₀ b₁ c₀ c₁ c₂ d₀ d₁ d₂ d₃ : ℕ) (rest : List ℕ)
    → get_or (cond x (a ∷ []) (cond y (b₀ ∷ b₁ ∷ []) (cond z (c₀ ∷ c₁ ∷ c₂ ∷ []) (d₀ ∷ d₁ ∷ d₂ ∷ d₃ ∷ []))) ++ rest) 0 0 ≡ cond x a (cond y b₀ (cond z c₀ d₀))
head_by true y z a b₀ b₁ c₀ c₁ c₂ d₀ d₁ d₂ d₃ rest = refl
head_by false true z a b₀ b₁ c₀ c₁ c₂ d₀ d₁ d₂ d₃ rest = refl
head_by false false true a b₀ b₁ c₀ c₁ c₂ d₀ d₁ d₂ d₃ rest = refl
head_by false false false a b₀ b₁ c₀ c₁ c₂ d₀ d₁ d₂ d₃ rest = refl

head : (c : ℕ) (rest : List ℕ) → get_or (encode c ++ rest) 0 0 ≡ first_byte c
unfolding encode
head c rest = head_by (nat_lt c 128) (nat_lt c 2048) (nat_lt c 65536) _ _ _ _ _ _ _ _ _ _ rest

width_by : (x y z : Bool) (c b₀ c₀ d₀ : ℕ) → nat_lt c 128 ≡ x → nat_lt c 2048 ≡ y → nat_lt c 65536 ≡ z → (y ≡ true → (192 ≤ b₀) × (b₀ < 224)) → (z ≡ true → (224 ≤ c₀) × (c₀ < 240)) → 240 ≤ d₀
    → continuation_len (cond x c (cond y b₀ (cond z c₀ d₀))) + 1 ≡ cond x 1 (cond y 2 (cond z 3 4))
width_by true y z c b₀ c₀ d₀ ex ey ez hb hc hd = rw ex refl
width_by false true z c b₀ c₀ d₀ ex ey ez hb hc hd =
    let h = hb refl in
    let low : nat_lt b₀ 128 ≡ false = le-ltb b₀ 128 (omega arith) in
    let here : nat_lt b₀ 224 ≡ true = lt-ltb b₀ 224 h.1 in
    rw (low, here) refl
width_by false false true c b₀ c₀ d₀ ex ey ez hb hc hd =
    let h = hc refl in
    let low : nat_lt c₀ 128 ≡ false = le-ltb c₀ 128 (omega arith) in
    let mid : nat_lt c₀ 224 ≡ false = le-ltb c₀ 224 h.0 in
    let here : nat_lt c₀ 240 ≡ true = lt-ltb c₀ 240 h.1 in
    rw (low, mid, here) refl
width_by false false false c b₀ c₀ d₀ ex ey ez hb hc hd =
    let low : nat_lt d₀ 128 ≡ false = le-ltb d₀ 128 (omega arith) in
    let mid : nat_lt d₀ 224 ≡ false = le-ltb d₀ 224 (omega arith) in
    let high : nat_lt d₀ 240 ≡ false = le-ltb d₀ 240 hd in
    rw (low, mid, high) refl

-- a first byte tells how many follow
width : (c : ℕ) (rest : List ℕ) → IsScalar c → continuation_len (get_or (encode c ++ rest) 0 0) + 1 ≡ length (encode c)
width c rest s =
    ap (λ b. continuation_len b + 1) (head c rest)
    ∙ width_by (nat_lt c 128) (nat_lt c 2048) (nat_lt c 65536) c (192 + c / 64) (224 + c / 4096) (240 + c / 262144) refl refl refl
    (λ e. let small : c < 2048 = ltb-true c 2048 e in (omega arith, omega arith))
    (λ e. let small : c < 65536 = ltb-true c 65536 e in (omega arith, omega arith))
    (omega arith)
    ∙ sym (length-encode c)

pub some : (c : ℕ) → 0 < length (encode c)
some c = let long : length (encode c) ≡ len_utf8 c = length-encode c in let bounds = len_utf8_bounds c in omega (arith, bounds.0)

-- no character begins nothing
pub nothing : (text : List ℕ) → length text < 1 → StartsWithNoChar text
nothing text short c rest s is = let long : length text ≡ length (encode c) + length rest = ap length is ∙ length-append (encode c) rest in omega (arith, some c)

-- where a character begins, it has as many bytes as its first byte tells
pub lies : (text : List ℕ) (c : ℕ) (rest : List ℕ) → IsScalar c → text ≡ encode c ++ rest → (continuation_len (get_or text 0 0) + 1 ≡ length (encode c)) × (length (encode c) ≤ length text)
lies text c rest s is =
    let long : length text ≡ length (encode c) + length rest = ap length is ∙ length-append (encode c) rest in
    (ap (λ t. continuation_len (get_or t 0 0) + 1) is ∙ width c rest s, omega arith)

-- no character begins a text that is too short for its first byte
pub too_short : (text : List ℕ) (n : ℕ) → n ≡ continuation_len (get_or text 0 0) + 1 → length text < n → StartsWithNoChar text
too_short text n e short c rest s is = let here = lies text c rest s is in omega (arith, here.0, here.1)

-- nor one whose first bytes, as many as its first byte tells, are no UTF-8
pub no_text : (text : List ℕ) (n : ℕ) → n ≡ continuation_len (get_or text 0 0) + 1 → (IsUtf8 (take n text) → ⊥) → StartsWithNoChar text
no_text text n e bad c rest s is =
    let here = lies text c rest s is in
    let front : take n text ≡ encode c = ap (λ m. take m text) (e ∙ here.0) ∙ ap (λ t. take (length (encode c)) t) is ∙ take-append_seam (encode c) rest in
    bad (subst IsUtf8 (sym front) (IsUtf8-encode c s))

first_of : (text : List ℕ) (n : ℕ) (cs : List ℕ) → n ≡ continuation_len (get_or text 0 0) + 1 → n ≤ length text → scalars cs ≡ true → encodes cs ≡ take n text → BeginsChar text n
first_of text n [] e long s is = absurd (let none : 0 ≡ length (take n text) = ap length is in let long : length (take n text) ≡ n = length-take-le n text long in omega arith)
first_of text n (c ∷ cs) e long s is =
    let parts = and_parts (scalar c) (scalars cs) s in
    let whole : text ≡ encode c ++ (encodes cs ++ drop n text) = sym (take-append-drop n text) ∙ ap (λ t. t ++ drop n text) (sym is) ∙ append_assoc (encode c) (encodes cs) (drop n text) in
    let here = lies text c (encodes cs ++ drop n text) parts.0 whole in
    let len : n ≡ length (encode c) = e ∙ here.0 in
    record { char = c; is_scalar = parts.0; is = whole ∙ ap (λ t. encode c ++ t) (sym (ap (λ m. drop m text) len ∙ ap (λ t. drop (length (encode c)) t) whole ∙ drop-append_seam (encode c) (encodes cs ++ drop n text))); len = len }

-- a character begins a text whose first bytes, as many as its first byte tells, are UTF-8
pub first : (text : List ℕ) (n : ℕ) → n ≡ continuation_len (get_or text 0 0) + 1 → n ≤ length text → IsUtf8 (take n text) → BeginsChar text n
first text n e long u = first_of text n u.0 e long u.1.0 u.1.1
