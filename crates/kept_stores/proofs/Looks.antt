-- What a look leaves, and what it finds.
use Rattle.std.proofs.Common.{◌≡◌, ◌∙◌, sym, ap, ℕ, ◌+◌, ◌-◌, ◌≤◌, arith, [], ◌∷◌, append-nil, Option, Some, None, Result, Ok, Err}
use Rattle.std.specs.Prelude.{IfOk, IfSome}
use Rattle.std.proofs.lemmas.Grind.{replicate_next}
use Rattle.kept_stores.specs.Truth.{missed}
use Rattle.turn_lock.specs.Histories.{GrowsByOne}
use native.Mathlib.Decide.{ℕ_discrete}
use mathlib.Core.Logic.{dite}

-- a count that one or nothing was added to
pub grows_few : (n m : ℕ) → n ≤ m → m ≤ n + 1 → GrowsByOne (missed n) (missed m)
grows_few n m low high = dite (ℕ_discrete m n)
    (λ same. ([], ap missed same ∙ sym (append-nil (missed n)), omega arith))
    (λ other. (tt ∷ [], ap missed (next other) ∙ replicate_next n tt, omega arith))
  where
    next : (m ≡ n → ⊥) → m ≡ n + 1
    next other = omega (arith, low, high, other)

module _ {V X : Type 0} (P : V → Type 0) where
  -- what is found is true where all that could be is
  pub true_if_found : (r : Result (Option V) X) (o : Option V) → IfOk r (λ list. list ≡ o) → ((v : V) → o ≡ Some v → P v) → IfOk r (λ list. IfSome list P)
  true_if_found (Ok None) o e h = tt
  true_if_found (Ok (Some v)) o e h = h v (sym e)
  true_if_found (Err x) o e h = tt
