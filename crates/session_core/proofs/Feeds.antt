-- Where an answer leads is where it leads the plan.
use Rattle.std.proofs.Common.{◌≡◌, ◌∙◌, ◌≤◌, ◌<◌, sym, ap, subst, refl, ℕ, zero, suc, ◌+◌, Bool, true, false, List, [], ◌∷◌, ◌++◌, length, length-append, map, take, drop, Option, Some, None, slice_get, if◌then◌else◌, arith}
use Rattle.std.specs.Option.{option_map}
use Rattle.std.proofs.lemmas.List.{length-map}
use Rattle.std.proofs.lemmas.Option.{slice_get-map}
use Rattle.b_values.specs.declared.values.State.{State}
use Rattle.engine_face.specs.Meaning.{Meaning}
use Rattle.engine_face.specs.Packing.{Unpacking, state_of, plain_lists, plain_step, plain_found}
use Rattle.engine_face.specs.declared.answers.Step.{Step}
use Rattle.engine_face.specs.declared.answers.OpList.{OpList}
use Rattle.engine_face.specs.declared.answers.StepList.{StepList}
use Rattle.engine_face.specs.declared.answers.ValueAnswer.{ValueAnswer}
use Rattle.engine_face.specs.declared.answers.ValueAnswer.TheVariants as answer
use Rattle.engine_face.specs.declared.answers.Found.{Found}
use Rattle.engine_face.specs.declared.answers.Found.TheVariants as found
use Rattle.session_words.specs.Replies.{dests}
use Rattle.session_words.specs.declared.refusals.Refusal.TheVariants as refusal
use Rattle.session_words.specs.declared.replies.Numbered.{Numbered}
use Rattle.session_words.specs.declared.replies.Reply.{Reply}
use Rattle.session_words.specs.declared.replies.Reply.TheVariants as reply
use Rattle.session_words.specs.declared.replies.SubValue.{SubValue}
use Rattle.formulas.specs.declared.subs.Sub.{Sub}
use Rattle.trace_ops.specs.Traces.{step_before, added, is_full}
use Rattle.animator.specs.Sessions.{Session, state_in, state_after, with_trace}
use Rattle.animator.specs.Plans.{Plan, Done}
use Rattle.animator.specs.Following.{fed, TheLists, TheValue, TheFound, Named}
use Rattle.animator.specs.Commands.{ended, refused, show_each, told_subs, arrived, steps_in, step_of}
use Rattle.animator.specs.Commands as table
use Rattle.session_core.specs.declared.held.Held.{Held}
use Rattle.session_core.specs.declared.stages.Arrival.{Arrival}
use Rattle.session_core.specs.declared.stages.Change.TheVariants.{Stay, Add}
use Rattle.session_core.specs.declared.stages.Opening.TheVariants as opening
use Rattle.session_core.specs.declared.stages.Stage.{Stage}
use Rattle.session_core.specs.declared.stages.Stage.TheVariants.{Listing, Taking, NamingLists, NamingStep, Evaluating, Checking, Subscribing, Finding, Telling}
use Rattle.session_core.specs.declared.stages.Next.{Next}
use Rattle.session_core.specs.declared.stages.Next.TheVariants.{Goes, Ends, Refuses}
use Rattle.session_core.specs.declared.stages.Answer.{Answer}
use Rattle.session_core.specs.declared.stages.Answer.TheVariants as given
use Rattle.session_core.specs.Fitting.{RootFits}
use Rattle.session_core.specs.Moving.{numbered_step, numbered_lists, packed_steps, any_step, listed, shown_lists, adding, taking, searched, valued, checked, opened, telling, added_step, named_step, taken_on}
use Rattle.session_core.specs.Told.{state_at, step_at, session_at, reply_at, opening_at, changed, plan_at, next_plan}
use Rattle.session_core.specs.Standing.{told_answer}
use Rattle.session_core.proofs.Numbering.{lists_told, steps_plain, dests_plain, no_step}
use Rattle.session_core.proofs.Starts.{arriving_plan, next_if, opened_at}

some_same : {A : Type 0} (x y : A) → Some x ≡ Some y → x ≡ y
some_same x y is = cc

step_map : {A B : Type 0} (f : A → B) (xs : List A) (i : ℕ) → slice_get (map f xs) i ≡ option_map f (slice_get xs i)
step_map f xs i = slice_get-map f xs i

-- the step behind so many others is the last one there
last_step : {A : Type 0} (xs : List A) (n : ℕ) (x : A) → n ≤ length xs → slice_get (take n xs ++ x ∷ []) n ≡ Some x
last_step xs zero x few = refl
last_step [] (suc n) x few = let no : ⊥ = omega arith in absurd no
last_step (y ∷ xs) (suc n) x few = last_step xs n x (omega arith)

drop_step : {A : Type 0} (n : ℕ) (xs : List A) (y : A) (ys : List A) → drop n xs ≡ y ∷ ys → drop (suc n) xs ≡ ys
drop_step zero [] y ys is = cc
drop_step zero (x ∷ xs) y ys is = cc
drop_step (suc n) [] y ys is = cc
drop_step (suc n) (x ∷ xs) y ys is = drop_step n xs y ys is

one_more : {A : Type 0} (xs : List A) (x : A) → length (xs ++ x ∷ []) ≡ suc (length xs)
one_more [] x = refl
one_more (y ∷ xs) x = ap suc (one_more xs x)

module _ (m : Meaning) (unpack : Unpacking) (root : Numbered) (shown : List State) (held : Held) (fits : RootFits m unpack root) where
  abbrev session : Session
  session = session_at unpack shown held

  abbrev next_of : Next → Plan
  next_of = next_plan unpack m.root session

  abbrev plan_of_stage : Stage → Plan
  plan_of_stage = plan_at unpack m.root session

  if_next : (b : Bool) (x y : Next) → next_of (if b then x else y) ≡ (if b then next_of x else next_of y)
  if_next = next_if m unpack root shown held fits

  -- ---- lists

  named_lists : (states : List State) (lists : StepList State) → fed (show_each states (ended session (reply.Lists lists))) Named ≡ ended session (reply.Lists lists)
  named_lists [] lists = refl
  named_lists (state ∷ states) lists = refl

  shown_plan : (lists : List (OpList (List ℕ))) (numbers : List ℕ) → length (packed_steps lists) ≤ length numbers
      → next_of (shown_lists lists numbers) ≡ ended session (reply.Lists (plain_lists unpack (record { lists = lists })))
  shown_plan lists numbers few = ap (λ (xs : List (OpList State)). ended session (reply.Lists (record { lists = xs }))) (lists_told unpack lists numbers few)

  -- where there is no step nothing is named
  unnamed : (lists : StepList (List ℕ)) → packed_steps lists.lists ≡ [] → next_of (shown_lists lists.lists []) ≡ plan_of_stage (NamingLists lists)
  unnamed lists none =
      shown_plan lists.lists [] (let few : length (packed_steps lists.lists) ≡ 0 = ap length none in omega arith)
      ∙ ap (λ (states : List State). show_each states (ended session (reply.Lists (plain_lists unpack lists))))
      (sym (dests_plain unpack lists ∙ ap (λ (steps : List (Step (List ℕ))). map (state_of unpack) (dests steps)) none))

  listed_by : (b : Bool) (lists : StepList (List ℕ)) → any_step lists.lists ≡ b
      → next_of (if b then Goes (NamingLists lists) else shown_lists lists.lists []) ≡ plan_of_stage (NamingLists lists)
  listed_by true lists is = refl
  listed_by false lists is = unnamed lists (no_step lists.lists is)

  -- ---- steps

  adding_plan : (step : Step (List ℕ)) → next_of (adding held step) ≡ table.adding m.root session (plain_step unpack step)
  adding_plan step = if_next (is_full held.trace) (Refuses refusal.TraceFull) (Goes (NamingStep step))

  taking_plan : (step : Option (Step (List ℕ))) → next_of (taking held step) ≡ table.taken m.root session (option_map (plain_step unpack) step)
  taking_plan None = refl
  taking_plan (Some step) = adding_plan step

  step_numbered : (lists : StepList (List ℕ)) (k : ℕ) → option_map (plain_step unpack) (step_of (packed_steps lists.lists) k) ≡ step_of (steps_in (plain_lists unpack lists)) k
  step_numbered lists zero = refl
  step_numbered lists (suc k) =
      sym (ap (λ (steps : List (Step State)). slice_get steps k) (steps_plain unpack lists.lists) ∙ step_map (plain_step unpack) (packed_steps lists.lists) k)

  searched_plan : (answer : Found (List ℕ)) → next_of (searched held answer) ≡ table.searched m.root session (plain_found unpack answer)
  searched_plan found.Nothing = refl
  searched_plan (found.Fault fault) = refl
  searched_plan (found.Step step) = adding_plan step

  valued_plan : (answer : ValueAnswer) → next_of (valued answer) ≡ table.evaluated session answer
  valued_plan answer.NotInitialised = refl
  valued_plan (answer.Fault fault) = refl
  valued_plan (answer.Value value bounded) = refl

  checked_plan : (answer : ValueAnswer) → next_of (checked answer) ≡ table.checked session answer
  checked_plan answer.NotInitialised = refl
  checked_plan (answer.Fault fault) = refl
  checked_plan (answer.Value value bounded) = refl

  -- the session stands at the step that was added
  stands_at : (step : Step State) → held.trace.position ≤ length held.trace.steps → state_in m.root (added step session.trace) ≡ step.dest
  stands_at step within =
      let few : held.trace.position ≤ length session.trace.steps = omega (arith, length-map held.trace.steps (step_at unpack)) in
      last_at (held.trace.position + 1) (take held.trace.position session.trace.steps ++ step ∷ []) step
      (let one : held.trace.position + 1 ≡ suc held.trace.position = omega arith in
      ap (λ (n : ℕ). step_before (take held.trace.position session.trace.steps ++ step ∷ []) n) one ∙ last_step session.trace.steps held.trace.position step few)
    where
      last_at : (n : ℕ) (steps : List (Step State)) (step : Step State) → step_before steps n ≡ Some step → state_in m.root (record { steps = steps; position = n }) ≡ step.dest
      last_at n steps step is = ap (λ (o : Option (Step State)). state_after m.root o) is

  added_plan : (step : Step (List ℕ)) (n : ℕ) → held.trace.position ≤ length held.trace.steps
      → next_of (added_step held (numbered_step step n)) ≡ arrived m.root (with_trace session (added (plain_step unpack step) session.trace)) (reply.Added (plain_step unpack step))
  added_plan step n within =
      arriving_plan m unpack root shown held fits held.subs.list (record { at = record { state = step.dest; number = n }; change = Add (numbered_step step n); opening = opening.Added (numbered_step step n) }) refl
      ∙ ap (λ (x : State). told_subs x session.subs.list []
      (λ answers. ended (with_trace session (added (plain_step unpack step) session.trace)) (reply.Added (plain_step unpack step) answers)))
      (sym (stands_at (plain_step unpack step) within))

  named_plan : (step : Step (List ℕ)) (numbers : List ℕ) (next : Next) → held.trace.position ≤ length held.trace.steps → named_step held step numbers ≡ Some next
      → next_of next ≡ arrived m.root (with_trace session (added (plain_step unpack step) session.trace)) (reply.Added (plain_step unpack step))
  named_plan step [] next within is = cc
  named_plan step (n ∷ numbers) next within is =
      ap next_of (sym (some_same _ _ is)) ∙ added_plan step n within

  -- ---- subscriptions

  telling_plan : (subs : List Sub) (arrival : Arrival) (told : List SubValue) (value : ValueAnswer) (next : Next) → drop (length told) held.subs.list ≡ subs → telling subs arrival told value ≡ Some next
      → next_of next ≡ fed (told_subs (state_at unpack arrival.at) subs told (λ answers. ended (changed unpack session arrival.change) (opening_at unpack arrival.opening answers))) (TheValue value)
  telling_plan [] arrival told value next here is = cc
  telling_plan (sub ∷ []) arrival told value next here is =
      ap next_of (sym (some_same _ _ is))
      ∙ ap (λ (r : Reply State). ended (changed unpack session arrival.change) r) (opened_at m unpack root shown held fits arrival.opening (told ++ record { number = sub.number; answer = value } ∷ []))
  telling_plan (sub ∷ other ∷ subs) arrival told value next here is =
      ap next_of (sym (some_same _ _ is))
      ∙ ap (λ (l : List Sub). told_subs (state_at unpack arrival.at) l (told ++ record { number = sub.number; answer = value } ∷ [])
      (λ answers. ended (changed unpack session arrival.change) (opening_at unpack arrival.opening answers)))
      (ap (λ (n : ℕ). drop n held.subs.list) (one_more told (record { number = sub.number; answer = value })) ∙ drop_step (length told) held.subs.list sub (other ∷ subs) here)

  -- ---- all stages

  -- the answer has a number for each state
  abbrev pub HasNumbers : Stage → Answer → Type 0
  HasNumbers (NamingLists lists) (given.Names numbers) = length (packed_steps lists.lists) ≤ length numbers
  HasNumbers stage answer = Unit {0}

  -- an answer leads where it leads the plan
  pub fed_plan : (stage : Stage) (answer : Answer) (next : Next) → held.trace.position ≤ length held.trace.steps → HasNumbers stage answer → taken_on held stage answer ≡ Some next
      → next_of next ≡ fed (plan_of_stage stage) (told_answer unpack answer)
  fed_plan Listing (given.Steps lists) next within numbers is =
      ap next_of (sym (some_same _ _ is)) ∙ listed_by (any_step lists.lists) lists refl
  fed_plan (Taking k) (given.Steps lists) next within numbers is =
      ap next_of (sym (some_same _ _ is)) ∙ taking_plan (step_of (packed_steps lists.lists) k) ∙ ap (table.taken m.root session) (step_numbered lists k)
  fed_plan (NamingLists lists) (given.Names numbers) next within few is =
      ap next_of (sym (some_same _ _ is)) ∙ shown_plan lists.lists numbers few ∙ sym (named_lists (dests (steps_in (plain_lists unpack lists))) (plain_lists unpack lists))
  fed_plan (NamingStep step) (given.Names numbers) next within few is = named_plan step numbers next within is
  fed_plan (Evaluating key) (given.Value value) next within numbers is = ap next_of (sym (some_same _ _ is)) ∙ valued_plan value
  fed_plan Checking (given.Value value) next within numbers is = ap next_of (sym (some_same _ _ is)) ∙ checked_plan value
  fed_plan (Subscribing key) (given.Value value) next within numbers is = ap next_of (sym (some_same _ _ is))
  fed_plan (Finding op preds) (given.Find answer) next within numbers is = ap next_of (sym (some_same _ _ is)) ∙ searched_plan answer
  fed_plan (Telling arrival told) (given.Value value) next within numbers is = telling_plan (drop (length told) held.subs.list) arrival told value next refl is
  fed_plan _ _ next within numbers is = cc
