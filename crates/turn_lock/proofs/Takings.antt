-- What a turn that came gives.
use Rattle.std.proofs.Common.{◌≡◌, ◌≢◌, ℕ, ◌%◌, ◌^◌, ◌≤◌, List, [], ◌∷◌, length, get_or, sym, ap, ◌∙◌, subst, arith, Some, length-append}
use Rattle.atomic_table.specs.Table.{step, rest}
use mathlib.Core.Option.{none as no_value}
use Rattle.std.specs.Borrow.{MutBor}
use Rattle.std.specs.Fn.{Once, FnOnceReturnsAtMut}
use Rattle.turn_lock.specs.declared.view.Stage.TheVariants.{Waiting}
use Rattle.turn_lock.specs.Steps.{Seated, TakesValue, ReadsServing}
use Rattle.turn_lock.specs.Jobs.{KeepsOn}
use Rattle.turn_lock.specs.Holding.{Came}

module _ {V E T : Type 0} (fits : T → V → Type 0) (history_of : V → List E) (tag : T) where
  -- the turn came, for a seat that still is as it was when it began to wait
  pub came : (m l n : Seated V E T) (ticket found t : ℕ) → l ≡ m → m.0.tag ≡ Some tag → ticket ≡ t % 2 ^ 64 → m.0.stage ≡ Waiting t → m.1 ≡ [] → ReadsServing fits history_of (step 0 0 0 0 no_value) l found n → found ≡ ticket → Came fits history_of tag m n
  came m l n ticket found t same known is stage none told hit =
      let took : TakesValue fits history_of t m n = subst (λ (x : Seated V E T). TakesValue fits history_of t x n) same ((told t (ap (λ (x : Seated V E T). x.0.stage) same ∙ stage)).0 (hit ∙ is)) in record {
        value = took.0;
        ticket = t;
        view_is = ap (λ (x : Seated V E T). x.0) took.1;
        held = ap (λ (x : Seated V E T). x.1) took.1 ∙ ap (λ (c : List (ℕ × V)). (0, took.0) ∷ c) none;
        fitted = took.2 tag known;
        begins = took.3;
      }

  pub waits_more : (m l n : Seated V E T) (ticket found t : ℕ) → l ≡ m → ticket ≡ t % 2 ^ 64 → m.0.stage ≡ Waiting t → ReadsServing fits history_of (step 0 0 0 0 no_value) l found n → found ≢ ticket → n ≡ m
  waits_more m l n ticket found t same is stage told miss = (told t (ap (λ (x : Seated V E T). x.0.stage) same ∙ stage)).1 (λ hit. miss (hit ∙ sym is)) ∙ same

module _ {V : Type 0} where
  pub lent : (l : List (ℕ × V)) (x y : V) → l ≡ (0, x) ∷ [] → l ≡ (0, y) ∷ rest l → x ≡ y
  lent l x y e f = ap (λ (c : List (ℕ × V)). (get_or c 0 (0, x)).1) (sym e ∙ f)

  pub kept_length : {E R F : Type 0} (fits : V → Type 0) (history_of : V → List E) (g : Once F (MutBor V × Unit {0}) (R × (MutBor V × Unit {0}))) (job : F) (value after : V) (r : R)
      → KeepsOn fits history_of g job value → FnOnceReturnsAtMut g job value r after → length (history_of value) ≤ length (history_of after)
  kept_length fits history_of g job value after r keeps ran = let t = keeps.leaves r after ran in omega (arith, ap length t.1.1, length-append (history_of value) t.1.0)
