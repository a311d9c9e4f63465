-- How a walk goes on by itself, in the words of the code's steps.
use Rattle.std.proofs.Common.{◌≡◌, ◌<◌, ◌≤◌, ◌+◌, ℕ, zero, suc, Bool, true, false, List, [], ◌∷◌, ◌++◌, length, drop, arith, refl, sym, ap, ◌∙◌, subst, Result, Ok, Err}
use Rattle.std.specs.Prelude.{IsTrue, IfOk}
use Rattle.std.specs.declared.alloc.AllocError.{AllocError}
use Rattle.b_places.specs.Places.{RangeOf, Candidate, places}
use Rattle.b_places.specs.Scopes.{Slots}
use Rattle.b_places.specs.Walks.{to_come, walk_work, left_in, whole_or_asks, pending, pending_work, IsTurning, IsResting, IsAsking, IsKeptWalk, IsNextRange, IsBack, Shifts}
use Rattle.b_places.specs.declared.walk.Range.{Range}
use Rattle.b_places.specs.declared.walk.Shift.{Shift}
use Rattle.b_places.specs.declared.walk.Shift.TheVariants.{End, Back, Forward}
use Rattle.b_places.specs.declared.walk.Stand.{Stand}
use Rattle.b_places.specs.declared.walk.Stand.TheVariants.{Asks}
use Rattle.b_places.specs.declared.walk.Walk.{Walk}
use Rattle.b_places.proofs.Turning.{over, on_back, on_back_work, on_back_stands, kept_back, kept_forward, took, took_work, first_pending, stood, leaves, pushed, pushed_work}

abbrev any_ranges : ℕ → List RangeOf
any_ranges zero = []
any_ranges (suc n) = (λ env. Ok []) ∷ any_ranges n

any_count : (n : ℕ) → n ≡ length (any_ranges n)
any_count zero = refl
any_count (suc n) = ap suc (any_count n)

module _ (count : ℕ) (w u : Walk) (t : IsTurning count w) (same : u.fresh ≡ w.fresh) (k : Shift) (turned : Shifts w u (Ok k)) where
  module _ (rs : List RangeOf) (env : Slots) (size : count ≡ length rs) where
    pub ends : k ≡ End → to_come rs env w ≡ []
    ends is = over rs env count size w u t same (subst (λ (j : Shift). Shifts w u (Ok j)) is turned)

    pub goes_back : k ≡ Back → to_come rs env w ≡ to_come rs env u
    goes_back is = let b : Shifts w u (Ok Back) = subst (λ (j : Shift). Shifts w u (Ok j)) is turned in on_back rs env count size w u t same b.1 b.0

    pub goes_back_work : k ≡ Back → walk_work rs env u < walk_work rs env w
    goes_back_work is = let b : Shifts w u (Ok Back) = subst (λ (j : Shift). Shifts w u (Ok j)) is turned in on_back_work rs env count size w u t same b.1 b.0

    pub takes : (s : Stand) → k ≡ Forward → s ≡ whole_or_asks u count → to_come rs env w ≡ pending rs env u s
    takes s is e = took rs env count size w u t same (subst (λ (j : Shift). Shifts w u (Ok j)) is turned) ∙ ap (pending rs env u) (sym e)

    pub takes_work : (s : Stand) → k ≡ Forward → s ≡ whole_or_asks u count → pending_work rs env u s ≤ walk_work rs env w
    takes_work s is e = subst (λ (j : Stand). pending_work rs env u j ≤ walk_work rs env w) (sym e) (took_work rs env count size w u t same (subst (λ (j : Shift). Shifts w u (Ok j)) is turned))

  pub goes_back_stands : k ≡ Back → IsTurning count u
  goes_back_stands is = let b : Shifts w u (Ok Back) = subst (λ (j : Shift). Shifts w u (Ok j)) is turned in on_back_stands (any_ranges count) [] count (any_count count) w u t same b.1 b.0

  pub goes_back_kept : k ≡ Back → IsKeptWalk w → IsKeptWalk u
  goes_back_kept is = let b : Shifts w u (Ok Back) = subst (λ (j : Shift). Shifts w u (Ok j)) is turned in kept_back w u b.0 b.1

  pub takes_kept : k ≡ Forward → IsKeptWalk w → IsKeptWalk u
  takes_kept is = kept_forward w u (subst (λ (j : Shift). Shifts w u (Ok j)) is turned)

-- ---- leaving a place

pub first_found : (count : ℕ) (w u : Walk) (s : Stand) → IsResting count w → IsTrue w.fresh → u.values ≡ w.values → u.ranges ≡ w.ranges → u.fresh ≡ false → s ≡ whole_or_asks u count
    → (rs : List RangeOf) (env : Slots) → count ≡ length rs → to_come rs env w ≡ pending rs env u s
first_found count w u s r is v k g e rs env size = first_pending rs env count w u r is v k g ∙ stood rs env count size u ∙ ap (pending rs env u) (sym e)

pub left_found : (count : ℕ) (w x u : Walk) (m : Result Stand AllocError) → IsResting count w → w.fresh ≡ false → IsBack w.values x.values → x.ranges ≡ w.ranges → x.fresh ≡ w.fresh
    → IfOk m (λ s. (rs : List RangeOf) (env : Slots) → count ≡ length rs → to_come rs env x ≡ pending rs env u s)
    → IfOk m (λ s. (rs : List RangeOf) (env : Slots) → count ≡ length rs → to_come rs env w ≡ pending rs env u s)
left_found count w x u (Ok s) r old b k fresh h = λ rs env size. leaves rs env count w x r old b k fresh ∙ h rs env size
left_found count w x u (Err e) r old b k fresh h = tt

-- ---- entering a range

module _ (count : ℕ) (w x u : Walk) (range : Range) (values : x.values ≡ w.values) (ranges : x.ranges ≡ w.ranges ++ range ∷ []) (fresh : x.fresh ≡ w.fresh) (a : IsAsking count w) where
  pub entered_found : (m : Result Stand AllocError)
      → IfOk m (λ s. (rs : List RangeOf) (env : Slots) → count ≡ length rs → to_come rs env x ≡ pending rs env u s)
      → IfOk m (λ s. (rs : List RangeOf) (env : Slots) → count ≡ length rs → IsNextRange rs env w (left_in range) → pending rs env w Asks ≡ pending rs env u s)
  entered_found (Ok s) h = λ rs env size g. pushed w x range values ranges fresh rs env count size a g ∙ h rs env size
  entered_found (Err e) h = tt

  pub entered_less : (m : Result Stand AllocError)
      → IfOk m (λ s. (rs : List RangeOf) (env : Slots) → count ≡ length rs → pending_work rs env u s ≤ walk_work rs env x)
      → IfOk m (λ s. (rs : List RangeOf) (env : Slots) → count ≡ length rs → IsNextRange rs env w (left_in range) → pending_work rs env u s < pending_work rs env w Asks)
  entered_less (Ok s) h = λ rs env size g. below (pending_work rs env u s) (walk_work rs env x) (pending_work rs env w Asks) (h rs env size) (pushed_work w x range values ranges fresh rs env count size a g)
    where
      below : (p q r : ℕ) → p ≤ q → q < r → p < r
      below p q r m n = omega arith
  entered_less (Err e) h = tt
