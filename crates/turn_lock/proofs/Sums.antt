-- Sums over lists that change at one place.
use Rattle.std.proofs.Common.{◌≡◌, ◌≢◌, ℕ, zero, suc, ◌+◌, ◌<◌, ◌≤◌, List, [], ◌∷◌, ◌++◌, length, get_or, set, refl, sym, ap, arith}
use mathlib.Core.Option.{some, some-injective, some-ne-none}
use lib.ListN.{get_elem?}
use Rattle.turn_lock.specs.Rule.{total}

module _ {A : Type 0} where
  pub at_below : (l : List A) (j : ℕ) (v : A) → get_elem? l j ≡ some v → j < length l
  at_below [] j v e = absurd (some-ne-none v (sym e))
  at_below (x ∷ xs) zero v e = omega arith
  at_below (x ∷ xs) (suc j) v e = omega (arith, at_below xs j v e)

  module _ (g : A → ℕ) where
    pub total-append : (l m : List A) → total g (l ++ m) ≡ total g l + total g m
    total-append [] m = omega arith
    total-append (x ∷ xs) m = omega (arith, total-append xs m)

    pub total-set : (l : List A) (j : ℕ) (v w : A) → get_elem? l j ≡ some v → total g (set l j w) + g v ≡ total g l + g w
    total-set [] j v w e = absurd (some-ne-none v (sym e))
    total-set (x ∷ xs) zero v w e = omega (arith, ap g (some-injective x v e))
    total-set (x ∷ xs) (suc j) v w e = omega (arith, total-set xs j v w e)

    pub term_le : (l : List A) (j : ℕ) (v : A) → get_elem? l j ≡ some v → g v ≤ total g l
    term_le [] j v e = absurd (some-ne-none v (sym e))
    term_le (x ∷ xs) zero v e = omega (arith, ap g (some-injective x v e))
    term_le (x ∷ xs) (suc j) v e = omega (arith, term_le xs j v e)

    pub terms_le : (l : List A) (j k : ℕ) (v u : A) → k ≢ j → get_elem? l j ≡ some v → get_elem? l k ≡ some u → g v + g u ≤ total g l
    terms_le [] j k v u n e d = absurd (some-ne-none v (sym e))
    terms_le (x ∷ xs) zero zero v u n e d = absurd (n refl)
    terms_le (x ∷ xs) zero (suc k) v u n e d = omega (arith, ap g (some-injective x v e), term_le xs k u d)
    terms_le (x ∷ xs) (suc j) zero v u n e d = omega (arith, ap g (some-injective x u d), term_le xs j v e)
    terms_le (x ∷ xs) (suc j) (suc k) v u n e d = omega (arith, terms_le xs j k v u (λ h. n (ap suc h)) e d)

    pub none_total : (l : List A) → ((j : ℕ) (u : A) → get_elem? l j ≡ some u → g u ≡ 0) → total g l ≡ 0
    none_total [] h = refl
    none_total (x ∷ xs) h = omega (arith, h 0 x refl, none_total xs (λ j u e. h (suc j) u e))

    -- where all others weigh nothing
    pub alone : (l : List A) (j : ℕ) (v : A) → get_elem? l j ≡ some v → ((k : ℕ) (u : A) → k ≢ j → get_elem? l k ≡ some u → g u ≡ 0) → total g l ≡ g v
    alone [] j v e h = absurd (some-ne-none v (sym e))
    alone (x ∷ xs) zero v e h = omega (arith, ap g (some-injective x v e), none_total xs (λ k u d. h (suc k) u (λ z. omega arith) d))
    alone (x ∷ xs) (suc j) v e h = omega (arith, h 0 x (λ z. omega arith) refl, alone xs j v e (λ k u n d. h (suc k) u (λ z. n (omega arith)) d))

  pub total_le : (f g : A → ℕ) (l : List A) → ((j : ℕ) (u : A) → get_elem? l j ≡ some u → f u ≤ g u) → total f l ≤ total g l
  total_le f g [] h = omega arith
  total_le f g (x ∷ xs) h = omega (arith, h 0 x refl, total_le f g xs (λ j u e. h (suc j) u e))

pub nothing_held : {A : Type 0} (l : List A) → length l ≡ 0 → l ≡ []
nothing_held [] e = refl
nothing_held (x ∷ xs) e = absurd (omega arith)

pub word_at : (l : List ℕ) (i a : ℕ) → get_elem? l i ≡ some a → get_or l i 0 ≡ a
word_at [] i a e = absurd (some-ne-none a (sym e))
word_at (x ∷ xs) zero a e = some-injective x a e
word_at (x ∷ xs) (suc i) a e = word_at xs i a e
