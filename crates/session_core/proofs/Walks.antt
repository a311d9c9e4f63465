-- What holds of each state that a session holds holds of the states that it goes on with.
use Rattle.std.proofs.Common.{◌≡◌, ◌∙◌, ◌<◌, get_or, sym, ap, subst, refl, ℕ, zero, suc, ◌+◌, Bool, true, false, not, List, [], ◌∷◌, ◌++◌, length, map, take, drop, filter, Option, Some, None, Result, Ok, Err, IfOk, slice_get, if◌then◌else◌}
use Rattle.std.specs.List.{flat_map, find, AllByRecursion}
use Rattle.std.specs.Str.{bytes_eq}
use Rattle.std.proofs.lemmas.Option.{slice_get_read}
use Rattle.engine_face.specs.declared.answers.Step.{Step}
use Rattle.engine_face.specs.declared.answers.OpList.{OpList}
use Rattle.session_words.specs.Replies.{dests}
use Rattle.session_words.specs.declared.replies.Numbered.{Numbered}
use Rattle.trace_ops.specs.Histories.{History}
use Rattle.trace_ops.specs.Traces.{step_before}
use Rattle.session_core.specs.declared.held.KeptTrace.{KeptTrace}
use Rattle.session_core.specs.Moving.{numbered_after, numbered_before, with_kept}

module _ {A : Type 0} (P : A → Type 0) where
  pub all_append : (xs ys : List A) → AllByRecursion P xs → AllByRecursion P ys → AllByRecursion P (xs ++ ys)
  all_append [] ys a b = b
  all_append (x ∷ xs) ys a b = (a.0, all_append xs ys a.1 b)

  pub all_front : (xs ys : List A) → AllByRecursion P (xs ++ ys) → AllByRecursion P xs
  all_front [] ys all = tt
  all_front (x ∷ xs) ys all = (all.0, all_front xs ys all.1)

  pub all_behind : (xs ys : List A) → AllByRecursion P (xs ++ ys) → AllByRecursion P ys
  all_behind [] ys all = all
  all_behind (x ∷ xs) ys all = all_behind xs ys all.1

  pub all_take : (n : ℕ) (xs : List A) → AllByRecursion P xs → AllByRecursion P (take n xs)
  all_take zero xs all = tt
  all_take (suc n) [] all = tt
  all_take (suc n) (x ∷ xs) all = (all.0, all_take n xs all.1)

  filter_by : (b : Bool) (x : A) (xs : List A) → P x → AllByRecursion P xs → AllByRecursion P (if b then x ∷ xs else xs)
  filter_by true x xs p all = (p, all)
  filter_by false x xs p all = all

  pub all_filter : (test : A → Bool) (xs : List A) → AllByRecursion P xs → AllByRecursion P (filter test xs)
  all_filter test [] all = tt
  all_filter test (x ∷ xs) all = filter_by (test x) x (filter test xs) all.0 (all_filter test xs all.1)

  pub all_get : (xs : List A) (i : ℕ) (x : A) → AllByRecursion P xs → slice_get xs i ≡ Some x → P x
  all_get [] i x all is = cc
  all_get (y ∷ xs) zero x all is = let same : y ≡ x = cc in subst P same all.0
  all_get (y ∷ xs) (suc i) x all is = all_get xs i x all.1 is

  -- an element that is read
  pub all_item : (xs : List A) (i : ℕ) (x : A) → AllByRecursion P xs → i < length xs → x ≡ get_or xs i x → P x
  all_item xs i x all within is = all_get xs i x all (slice_get_read xs (length xs) i x refl within is)

  find_in : (b : Bool) (y : A) (o : Option A) (x : A) → P y → (o ≡ Some x → P x) → (if b then Some y else o) ≡ Some x → P x
  find_in true y o x p rest is = let same : y ≡ x = cc in subst P same p
  find_in false y o x p rest is = rest is

  pub all_find : (test : A → Bool) (xs : List A) (x : A) → AllByRecursion P xs → find test xs ≡ Some x → P x
  all_find test [] x all is = cc
  all_find test (y ∷ xs) x all is = find_in (test y) y (find test xs) x all.0 (λ e. all_find test xs x all.1 e) is

-- ---- numbered states

module _ (P : Numbered → Type 0) where
  abbrev pub AllSteps : List (Step Numbered) → Type 0
  AllSteps = AllByRecursion (λ (step : Step Numbered). P step.dest)

  before_by : (root : Numbered) (o : Option (Step Numbered)) → P root → ((step : Step Numbered) → o ≡ Some step → P step.dest) → P (numbered_after root o)
  before_by root None p all = p
  before_by root (Some step) p all = all step refl

  pub before_all : (root : Numbered) (steps : List (Step Numbered)) (n : ℕ) → P root → AllSteps steps → P (numbered_before root steps n)
  before_all root steps zero p all = p
  before_all root steps (suc n) p all = before_by root (slice_get steps n) p (λ step is. all_get (λ (s : Step Numbered). P s.dest) steps n step all is)

  pub dests_all : (steps : List (Step Numbered)) → AllSteps steps → AllByRecursion P (dests steps)
  dests_all [] all = tt
  dests_all (step ∷ steps) all = (all.0, dests_all steps all.1)

  abbrev pub AllKept : List KeptTrace → Type 0
  AllKept = AllByRecursion (λ (one : KeptTrace). AllSteps one.trace.steps)

  kept_in : (b : Bool) (new one : KeptTrace) (others left : List KeptTrace) → AllSteps new.trace.steps → AllSteps one.trace.steps → AllKept others → AllKept left → AllKept (if b then new ∷ others else one ∷ left)
  kept_in true new one others left p q all rest = (p, all)
  kept_in false new one others left p q all rest = (q, rest)

  pub kept_all : (new : KeptTrace) (kept : List KeptTrace) → AllSteps new.trace.steps → AllKept kept → AllKept (with_kept new kept)
  kept_all new [] p all = (p, tt)
  kept_all new (one ∷ others) p all = kept_in (bytes_eq new.name one.name) new one others (with_kept new others) p all.0 all.1 (kept_all new others p all.1)

pub if_ok_map : {A E : Type 0} (r : Result A E) (P Q : A → Type 0) → ((x : A) → P x → Q x) → IfOk r P → IfOk r Q
if_ok_map (Ok x) P Q f h = f x h
if_ok_map (Err e) P Q f h = tt
