-- Bytes and formulas, compared.
use Rattle.std.proofs.Common.{◌≡◌, ℕ, Bool, true, false, ◌&&◌, List, refl, sym, ap, ◌∙◌, nat_eq}
use Rattle.std.specs.Bool.{beq}
use Rattle.std.specs.Cmp.{booleans_Decides}
use Rattle.std.specs.Cmp.Lexicographic.{pointwise, same_text}
use Rattle.engine_face.specs.declared.keys.FormulaKey.{FormulaKey}

-- the bytes are the same
abbrev pub same_bytes : List ℕ → List ℕ → Bool
same_bytes = pointwise nat_eq

-- the formulas are the same
abbrev pub same_formula : FormulaKey → FormulaKey → Bool
same_formula a b = same_bytes a.text b.text && beq a.predicate b.predicate

pub bytes_same : (a b : List ℕ) → same_bytes a b ≡ true → a ≡ b
bytes_same a b h = same_text a b (sym h)

pub both_true : (p q : Bool) → (p && q) ≡ true → (p ≡ true) × (q ≡ true)
both_true true true h = (refl, refl)
both_true true false h = cc
both_true false q h = cc

pub formulas_same : (a b : FormulaKey) → same_formula a b ≡ true → a ≡ b
formulas_same a b h =
    let parts = both_true _ _ h in
    let text : a.text ≡ b.text = bytes_same a.text b.text parts.0 in
    let predicate : a.predicate ≡ b.predicate = (booleans_Decides a.predicate b.predicate).0 parts.1 in
    ap (λ t. record { text = t; predicate = a.predicate }) text ∙ ap (λ p. record { text = b.text; predicate = p }) predicate
