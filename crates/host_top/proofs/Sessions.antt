-- Running sessions.
use Rattle.std.proofs.Common.{◌≡◌, ◌∙◌, sym, ap, refl, ℕ, zero, suc, ◌+◌, ◌<◌, ◌≤◌, List, [], ◌∷◌, ◌++◌, length, map, take, Some, None, arith, length-append}
use Rattle.std.proofs.lemmas.List.{map-append, take-map, length-take-le}
use Rattle.std.proofs.lemmas.Option.{same_Some}
use Rattle.std.specs.Prelude.{slice_get}
use Rattle.std.specs.List.{AllByRecursion}
use Rattle.b_values.specs.declared.values.State.{State}
use Rattle.b_values.specs.declared.values.State.TheVariants.{Root}
use Rattle.animator.specs.declared.model.Step.{Step}
use Rattle.animator.specs.Names.{place, IsNamed, Extends, BeginsWithRoot}
use Rattle.animator.specs.Replies.{state_at}
use Rattle.animator.proofs.Places.{place-append}
use Rattle.host_top.specs.declared.session.ShownStep.{ShownStep}
use Rattle.host_top.specs.declared.session.Running.{Running}
use Rattle.host_top.specs.Sessions.{shown_before, HasNumber, IsNumbered}

-- a step was put behind those up to the position
pub added_shown : (steps items : List ShownStep) (position : ℕ) (shown : ShownStep) → items ≡ take position steps ++ shown ∷ []
    → map (λ s. s.step) items ≡ take position (map (λ s. s.step) steps) ++ shown.step ∷ []
added_shown steps items position shown is =
    ap (map (λ (s : ShownStep). s.step)) is ∙ map-append (λ (s : ShownStep). s.step) (take position steps) (shown ∷ [])
    ∙ ap (λ (l : List Step). l ++ shown.step ∷ []) (sym (take-map (λ (s : ShownStep). s.step) position steps))

get_none : {A : Type 0} (xs : List A) (i : ℕ) → slice_get xs i ≡ None → length xs ≤ i
get_none [] i none = omega arith
get_none (x ∷ xs) zero none = cc
get_none (x ∷ xs) (suc i) none = omega (arith, get_none xs i none)

-- root has number 0
root_first : (names : List State) → BeginsWithRoot names → IsNamed names Root × (0 ≡ place names Root)
root_first [] begins = cc
root_first (name ∷ names) begins =
    let is : name ≡ Root = same_Some name Root begins in
    let here : place (name ∷ names) Root ≡ 0 = rw is refl in
    (omega (arith, here), sym here)

-- where no step leads to a position, root stands there
pub number_none : (names : List State) (steps : List ShownStep) (position : ℕ) → BeginsWithRoot names → position ≤ length steps → shown_before steps position ≡ None
    → IsNamed names (state_at (map (λ s. s.step) steps) position) × (0 ≡ place names (state_at (map (λ s. s.step) steps) position))
number_none names steps zero begins within none = root_first names begins
number_none names steps (suc n) begins within none = absurd (omega (arith, get_none steps n none))

each_more : (names more : List State) (steps : List ShownStep) → AllByRecursion (HasNumber names) steps → AllByRecursion (HasNumber (names ++ more)) steps
each_more names more [] each = tt
each_more names more (shown ∷ steps) each = (
  record {
    named = rw (place-append names more shown.step.dest each.0.named) (omega (arith, length-append names more, each.0.named));
    number = each.0.number ∙ sym (place-append names more shown.step.dest each.0.named);
  },
  each_more names more steps each.1,
)

begins_more : (names more : List State) → BeginsWithRoot names → BeginsWithRoot (names ++ more)
begins_more [] more begins = cc
begins_more (name ∷ names) more begins = begins

-- the numbers hold while the names grow and the session stays
pub numbered_grown : (names longer : List State) (old new : Running) → Extends names longer → IsNumbered names old → new.steps.items ≡ old.steps.items → new.position ≡ old.position → IsNumbered longer new
numbered_grown names longer old new extends numbered items position = record {
  first = rw extends.1 (begins_more names extends.0 numbered.first);
  within = rw (items, position) numbered.within;
  numbers = rw (extends.1, items) (each_more names extends.0 old.steps.items numbered.numbers);
}

each_take : {A : Type 0} (P : A → Type 0) (n : ℕ) (xs : List A) (x : A) → AllByRecursion P xs → P x → AllByRecursion P (take n xs ++ x ∷ [])
each_take P zero xs x each last = (last, tt)
each_take P (suc n) [] x each last = (last, tt)
each_take P (suc n) (y ∷ ys) x each last = (each.0, each_take P n ys x each.1 last)

-- one step more keeps its number
pub numbered_added : (names : List State) (old new : Running) (shown : ShownStep) → IsNumbered names old → HasNumber names shown
    → new.steps.items ≡ take old.position old.steps.items ++ shown ∷ [] → new.position ≡ old.position + 1 → IsNumbered names new
numbered_added names old new shown numbered here items position = record {
  first = numbered.first;
  within = rw (items, position) (omega (arith, length-append (take old.position old.steps.items) (shown ∷ []), length-take-le old.position old.steps.items numbered.within));
  numbers = rw items (each_take (HasNumber names) old.position old.steps.items shown numbered.numbers here);
}
