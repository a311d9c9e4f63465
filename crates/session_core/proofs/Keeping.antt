-- A trace takes the place of the one of its name, or stands behind all.
use Rattle.std.proofs.Common.{◌≡◌, ◌∙◌, ◌≤◌, ◌<◌, sym, ap, refl, ℕ, zero, suc, Bool, true, false, List, [], ◌∷◌, ◌++◌, length, get_or, Option, Some, None, if◌then◌else◌, arith}
use Rattle.std.specs.Prelude.{slice_set}
use Rattle.std.specs.List.{position, position_or_len}
use Rattle.std.proofs.lemmas.Grind.{common_steps}
use Rattle.std.proofs.lemmas.List.Quantifiers.{position-Some}
use Rattle.std.proofs.lemmas.List.Sums.{fails_before_first}
use Rattle.session_core.specs.declared.held.KeptTrace.{KeptTrace}
use Rattle.session_core.specs.Moving.{is_named_as, with_kept}

past_all : {A : Type 0} (test : A → Bool) (xs : List A) → position test xs ≡ None → length xs ≤ position_or_len test xs
past_all test xs none = grind (arith, common_steps)

module _ (new : KeptTrace) where
  set_by : (b : Bool) (others left : List KeptTrace) → b ≡ true → (if b then new ∷ others else left) ≡ new ∷ others
  set_by true others left is = refl
  set_by false others left is = cc

  skip_by : (b : Bool) (others left : List KeptTrace) → b ≡ false → (if b then new ∷ others else left) ≡ left
  skip_by true others left is = cc
  skip_by false others left is = refl

  kept_set : (kept : List KeptTrace) (i : ℕ) → i < length kept → is_named_as new (get_or kept i new) ≡ true → ((k : ℕ) → k < i → is_named_as new (get_or kept k new) ≡ false) → with_kept new kept ≡ slice_set kept i new
  kept_set [] i within is before = let no : ⊥ = omega arith in absurd no
  kept_set (one ∷ others) zero within is before = set_by (is_named_as new one) others (one ∷ with_kept new others) is
  kept_set (one ∷ others) (suc i) within is before =
      skip_by (is_named_as new one) others (one ∷ with_kept new others) (before 0 (omega arith))
      ∙ ap (λ (ks : List KeptTrace). one ∷ ks) (kept_set others i (omega arith) is (λ k lt. before (suc k) (omega (arith, lt))))

  kept_push : (kept : List KeptTrace) → ((k : ℕ) → k < length kept → is_named_as new (get_or kept k new) ≡ false) → with_kept new kept ≡ kept ++ new ∷ []
  kept_push [] none = refl
  kept_push (one ∷ others) none =
      skip_by (is_named_as new one) others (one ∷ with_kept new others) (none 0 (omega arith))
      ∙ ap (λ (ks : List KeptTrace). one ∷ ks) (kept_push others (λ k lt. none (suc k) (omega (arith, lt))))

  pub kept_within : (kept : List KeptTrace) (i : ℕ) → position (is_named_as new) kept ≡ Some i → i < length kept
  kept_within kept i is = (position-Some (is_named_as new) kept i new is).0

  pub kept_some : (kept : List KeptTrace) (i : ℕ) → position (is_named_as new) kept ≡ Some i → slice_set kept i new ≡ with_kept new kept
  kept_some kept i is = let there = position-Some (is_named_as new) kept i new is in sym (kept_set kept i there.0 there.1 there.2)

  pub kept_none : (kept : List KeptTrace) → position (is_named_as new) kept ≡ None → kept ++ new ∷ [] ≡ with_kept new kept
  kept_none kept is = sym (kept_push kept (λ k lt. fails_before_first (is_named_as new) kept k new (omega (arith, lt, past_all (is_named_as new) kept is))))
