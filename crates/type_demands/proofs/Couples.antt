-- The couple of a binder's names, name by name.
use Rattle.std.proofs.Common.{◌≡◌, ℕ, ◌<◌, ◌+◌, List, [], ◌∷◌, ◌++◌, length, drop, get_or, append_assoc, arith, refl, sym, ap, ◌∙◌}
use Rattle.std.proofs.lemmas.List.{drop_more}
use Rattle.b_ast.specs.declared.Bound.{Bound}
use Rattle.type_schemes.specs.declared.rules.Rule.TheVariants as rule
use Rattle.type_demands.specs.declared.demands.Demand.{Demand}
use Rattle.type_demands.specs.Demands.{obeying, couple_whole, couple_demands}

next_name : (names : List Bound) (i : ℕ) → i < length names → (b : Bound) × (drop i names ≡ b ∷ drop (i + 1) names)
next_name [] i h = absurd (omega arith)
next_name (b ∷ names) i h = (get_or (b ∷ names) i b, drop_more (b ∷ names) i b h)

pub nothing_more : (o : List Demand) → o ≡ o ++ []
nothing_more o = sym (Rattle.std.proofs.lemmas.List.append-nil o)

module _ (names : List Bound) (i : ℕ) (inside : i < length names) where
  pub couple_more : (before after : List Demand) (l r n : ℕ) → after ≡ before ++ obeying rule.Couple l r n ∷ [] → after ++ couple_demands n (r + 1) (n + 1) (drop (i + 1) names) ≡ before ++ couple_demands l r n (drop i names)
  couple_more before after l r n e =
      let b = next_name names i inside in
      ap (λ ds. ds ++ couple_demands n (r + 1) (n + 1) (drop (i + 1) names)) e
      ∙ append_assoc before (obeying rule.Couple l r n ∷ []) (couple_demands n (r + 1) (n + 1) (drop (i + 1) names))
      ∙ ap (λ bs. before ++ couple_demands l r n bs) (sym b.1)

  pub whole_more : (l n : ℕ) → couple_whole n (n + 1) (drop (i + 1) names) ≡ couple_whole l n (drop i names)
  whole_more l n = let b = next_name names i inside in ap (couple_whole l n) (sym b.1)

  pub parts_more : (n : ℕ) → n + 1 + length (drop (i + 1) names) ≡ n + length (drop i names)
  parts_more n = let b = next_name names i inside in let e = ap length b.1 in omega arith
