-- Values one after the other, as a loop packs and unpacks them.
use Rattle.std.proofs.Common.{◌≡◌, ◌∙◌, ◌<◌, ◌≤◌, ◌+◌, ◌-◌, ℕ, suc, List, [], ◌∷◌, ◌++◌, Option, Some, None, refl, sym, ap, append_assoc, arith, length, drop, get_or}
use Rattle.std.proofs.lemmas.List.{drop_more}
use Rattle.b_values.specs.ReadingDescent.{Found, with_found}
use Rattle.b_values.specs.declared.types.NameFace.{NameFace}
use Rattle.b_values.specs.declared.types.SetFace.{SetFace}
use Rattle.b_values.specs.declared.values.Value.{Value}
use Rattle.pack_state.specs.Unpacking.{Reader, read_many, read_names, read_kept}

-- what was read before, and what is still read
abbrev pub with_front : List Value → Found (List Value) → Found (List Value)
with_front front found = with_found found (λ vs rest. Some (front ++ vs, rest))

regroup : (front : List Value) (v : Value) (found : Found (List Value)) → with_front front (with_found found (λ vs more. Some (v ∷ vs, more))) ≡ with_front (front ++ v ∷ []) found
regroup front v None = refl
regroup front v (Some p) = ap (λ (vs : List Value). Some (vs, p.1)) (sym (append_assoc front (v ∷ []) p.0))

module _ (read : Reader) (front : List Value) (count i : ℕ) (bytes : List ℕ) (whole : Found (List Value)) where
  pub many_go : (v : Value) (after : List ℕ) → i < count → read bytes ≡ Some (v, after)
      → with_front front (read_many read (count - i) bytes) ≡ whole → with_front (front ++ v ∷ []) (read_many read (count - (i + 1)) after) ≡ whole
  many_go v after lt h so_far =
      let k : count - i ≡ suc (count - (i + 1)) = omega arith in
      let one : with_front front (read_many read (count - i) bytes) ≡ with_front (front ++ v ∷ []) (read_many read (count - (i + 1)) after) = rw (k, h) (regroup front v (read_many read (count - (i + 1)) after)) in
      sym one ∙ so_far

module _ (sets : List SetFace) (front : List Value) (names : List NameFace) (i : ℕ) (bytes : List ℕ) (whole : Found (List Value)) where
  pub names_go : (name : NameFace) (v : Value) (after : List ℕ) → i < length names → name ≡ get_or names i name → read_kept sets name.ty bytes ≡ Some (v, after)
      → with_front front (read_names sets (drop i names) bytes) ≡ whole → with_front (front ++ v ∷ []) (read_names sets (drop (i + 1) names) after) ≡ whole
  names_go name v after lt same h so_far =
      let here : drop i names ≡ name ∷ drop (i + 1) names = drop_more names i name lt ∙ ap (λ (n : NameFace). n ∷ drop (i + 1) names) (sym same) in
      let one : with_front front (read_names sets (drop i names) bytes) ≡ with_front (front ++ v ∷ []) (read_names sets (drop (i + 1) names) after) = rw (here, h) (regroup front v (read_names sets (drop (i + 1) names) after)) in
      sym one ∙ so_far
