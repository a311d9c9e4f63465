-- Lists of packed states, their numbers, and what they are told as.
use Rattle.std.proofs.Common.{◌≡◌, ◌∙◌, ◌≤◌, ◌<◌, sym, ap, subst, refl, ℕ, zero, suc, ◌+◌, ◌-◌, Bool, true, false, cond, ◌||◌, List, [], ◌∷◌, ◌++◌, length, length-append, map, take, drop, Option, Some, None, arith}
use Rattle.std.specs.List.{flat_map, AllByRecursion}
use Rattle.std.proofs.lemmas.List.{map-append, length-map, length-drop}
use Rattle.b_values.specs.declared.values.State.{State}
use Rattle.engine_face.specs.Packing.{Unpacking, IsPacked, state_of, step_to, list_to, plain_lists, plain_step}
use Rattle.engine_face.specs.declared.answers.Step.{Step}
use Rattle.engine_face.specs.declared.answers.OpList.{OpList}
use Rattle.engine_face.specs.declared.answers.StepList.{StepList}
use Rattle.session_words.specs.Replies.{dests}
use Rattle.session_words.specs.Retelling.{retold_steps, retold_list, retold_lists}
use Rattle.session_words.specs.declared.replies.Numbered.{Numbered}
use Rattle.animator.specs.Commands.{steps_in}
use Rattle.session_core.specs.Moving.{numbered_step, numbered_steps, numbered_lists, packed_steps, has_step, any_step}
use Rattle.session_core.specs.Told.{state_at, step_at}

module _ (unpack : Unpacking) where
  -- steps with numbers are those steps, told of the states
  pub steps_told : (steps : List (Step (List ℕ))) (numbers : List ℕ) → length steps ≤ length numbers
      → map (step_at unpack) (numbered_steps steps numbers) ≡ map (plain_step unpack) steps
  steps_told [] numbers few = refl
  steps_told (step ∷ steps) [] few = let no : ⊥ = omega arith in absurd no
  steps_told (step ∷ steps) (n ∷ numbers) few = ap (λ (xs : List (Step State)). plain_step unpack step ∷ xs) (steps_told steps numbers (omega arith))

  taken_few : (n : ℕ) (numbers : List ℕ) → n ≤ length numbers → n ≤ length (take n numbers)
  taken_few zero numbers few = omega arith
  taken_few (suc n) [] few = omega arith
  taken_few (suc n) (x ∷ numbers) few = let h : n ≤ length (take n numbers) = taken_few n numbers (omega arith) in omega arith

  pub lists_told : (lists : List (OpList (List ℕ))) (numbers : List ℕ) → length (packed_steps lists) ≤ length numbers
      → retold_lists (state_at unpack) (numbered_lists lists numbers) ≡ map (list_to (state_of unpack)) lists
  lists_told [] numbers few = refl
  lists_told (list ∷ lists) numbers few =
      let all : length (packed_steps (list ∷ lists)) ≡ length list.steps + length (packed_steps lists) = length-append list.steps (packed_steps lists) in
      let left : length (drop (length list.steps) numbers) ≡ length numbers - length list.steps = length-drop (length list.steps) numbers in
      let front : length list.steps ≤ length numbers = omega arith in
      ap (λ (xs : List (Step State)). record { op = list.op; steps = xs; end = list.end } ∷ retold_lists (state_at unpack) (numbered_lists lists (drop (length list.steps) numbers)))
      (steps_told list.steps (take (length list.steps) numbers) (taken_few (length list.steps) numbers front))
      ∙ ap (λ (xs : List (OpList State)). list_to (state_of unpack) list ∷ xs) (lists_told lists (drop (length list.steps) numbers) (omega arith))

  -- the steps of all lists, and where they lead
  pub steps_plain : (lists : List (OpList (List ℕ))) → flat_map (λ (list : OpList State). list.steps) (map (list_to (state_of unpack)) lists) ≡ map (plain_step unpack) (packed_steps lists)
  steps_plain [] = refl
  steps_plain (list ∷ lists) =
      ap (λ (xs : List (Step State)). map (plain_step unpack) list.steps ++ xs) (steps_plain lists)
      ∙ sym (map-append (plain_step unpack) list.steps (packed_steps lists))

  dests_map : (steps : List (Step (List ℕ))) → dests (map (plain_step unpack) steps) ≡ map (state_of unpack) (dests steps)
  dests_map [] = refl
  dests_map (step ∷ steps) = ap (λ (xs : List State). state_of unpack step.dest ∷ xs) (dests_map steps)

  pub dests_plain : (lists : StepList (List ℕ)) → dests (steps_in (plain_lists unpack lists)) ≡ map (state_of unpack) (dests (packed_steps lists.lists))
  dests_plain lists = ap (λ (xs : List (Step State)). dests xs) (steps_plain lists.lists) ∙ dests_map (packed_steps lists.lists)

none_by : (steps : List (Step (List ℕ))) (rest : Bool) → (has_step steps || rest) ≡ false → (steps ≡ []) × (rest ≡ false)
none_by [] rest none = (refl, none)
none_by (step ∷ steps) rest none = cc

-- lists without a step have no steps
pub no_step : (lists : List (OpList (List ℕ))) → any_step lists ≡ false → packed_steps lists ≡ []
no_step [] none = refl
no_step (list ∷ lists) none =
    let both = none_by list.steps (any_step lists) none in
    ap (λ (steps : List (Step (List ℕ))). steps ++ packed_steps lists) both.0 ∙ no_step lists both.1
