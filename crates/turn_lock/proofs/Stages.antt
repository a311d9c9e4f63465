-- The numbers of the queue, and the stages of a pass.
use Rattle.std.proofs.Common.{◌≡◌, ℕ, ◌+◌, ◌%◌, ◌^◌, ◌<◌, ◌≤◌, true, refl, ap, arith, cond, ◌==◌, eq-eqb}
use Rattle.std.proofs.lemmas.Bool.Decides.{nat_tests}
use Rattle.turn_lock.specs.declared.view.Stage.{Stage}
use Rattle.turn_lock.specs.declared.view.Stage.TheVariants.{Idle, Waiting, Holding}
use Rattle.turn_lock.specs.Views.{holds_with, tickets_of, is_holding, is_idle}
use Rattle.turn_lock.specs.Rule.{within}

-- the numbers of the queue

pub within_one : (first count k : ℕ) → within first count k ≤ 1
within_one first count k = grind (arith, nat_tests)

pub within_none : (first k : ℕ) → within first 0 k ≡ 0
within_none first k = grind (arith, nat_tests)

pub within_more : (first count k : ℕ) → within first (count + 1) k ≡ within first count k + cond (first + count == k) 1 0
within_more first count k = grind (arith, nat_tests)

pub within_less : (first count k : ℕ) → within first (count + 1) k ≡ within (first + 1) count k + cond (first == k) 1 0
within_less first count k = grind (arith, nat_tests)

pub within_is : (first count k : ℕ) → 0 < within first count k → (first ≤ k) × (k < first + count)
within_is first count k h = (grind (arith, nat_tests), grind (arith, nat_tests))

pub wraps : (n : ℕ) → (n % 2 ^ 64 + 1) % 2 ^ 64 ≡ (n + 1) % 2 ^ 64
wraps n = omega arith

-- stages

pub idle_is : (st : Stage) → is_idle st ≡ true → st ≡ Idle
idle_is Idle e = refl
idle_is (Waiting t) e = cc
idle_is (Holding t) e = cc

pub tickets_one : (st : Stage) → tickets_of st ≤ 1
tickets_one Idle = omega arith
tickets_one (Waiting t) = omega arith
tickets_one (Holding t) = omega arith

pub holder_at : (st : Stage) → is_holding st ≡ true → (k : ℕ) × (holds_with k st ≡ 1) × (st ≡ Holding k)
holder_at Idle e = cc
holder_at (Waiting t) e = cc
holder_at (Holding t) e = (t, ap (λ b. cond b 1 0) (eq-eqb t t refl), refl)

pub ticket_of_holder : (st : Stage) → is_holding st ≡ true → tickets_of st ≡ 1
ticket_of_holder Idle e = cc
ticket_of_holder (Waiting t) e = refl
ticket_of_holder (Holding t) e = refl

pub not_held : (st : Stage) → st ≡ Idle → is_holding st ≡ true → ⊥
not_held Idle e h = cc
not_held (Waiting t) e h = cc
not_held (Holding t) e h = cc

pub not_held_waiting : (st : Stage) (t : ℕ) → st ≡ Waiting t → is_holding st ≡ true → ⊥
not_held_waiting Idle t e h = cc
not_held_waiting (Waiting u) t e h = cc
not_held_waiting (Holding u) t e h = cc
