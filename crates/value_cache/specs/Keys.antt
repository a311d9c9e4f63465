-- Keys of values, compared.
use Rattle.std.proofs.Common.{◌≡◌, ◌∙◌, ℕ, Bool, true, ◌&&◌, List, ap}
use Rattle.engine_face.specs.Keys.{same_bytes, same_formula, bytes_same, both_true, formulas_same}
use Rattle.engine_face.specs.declared.keys.FormulaKey.{FormulaKey}
use Rattle.value_cache.specs.declared.store.ValueKey.{ValueKey}

-- the same formula in the same state
abbrev pub same_key : ValueKey → ValueKey → Bool
same_key a b = same_bytes a.at b.at && same_formula a.key b.key

pub keys_same : (a b : ValueKey) → same_key a b ≡ true → a ≡ b
keys_same a b h =
    let parts = both_true _ _ h in
    let at : a.at ≡ b.at = bytes_same a.at b.at parts.0 in
    let key : a.key ≡ b.key = formulas_same a.key b.key parts.1 in
    ap (λ (t : List ℕ). record { at = t; key = a.key }) at ∙ ap (λ (k : FormulaKey). record { at = b.at; key = k }) key
