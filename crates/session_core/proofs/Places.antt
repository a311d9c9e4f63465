-- The numbers that a session goes on with are places.
use Rattle.std.proofs.Common.{◌≡◌, ◌∙◌, sym, ap, subst, refl, ℕ, zero, suc, ◌+◌, Bool, true, false, ◌||◌, nat_lt, List, [], ◌∷◌, ◌++◌, length, map, take, drop, Option, Some, None, Result, Ok, Err, if◌then◌else◌}
use Rattle.std.specs.Prelude.{is_some}
use Rattle.std.specs.List.{flat_map, list_any, AllByRecursion}
use Rattle.std.proofs.lemmas.List.{map-append, length-map}
use Rattle.b_values.specs.declared.types.OpId.{OpId}
use Rattle.b_values.specs.declared.values.State.{State}
use Rattle.engine_face.specs.Meaning.{Meaning}
use Rattle.engine_face.specs.Packing.{Unpacking, state_of, plain_lists}
use Rattle.engine_face.specs.declared.answers.Step.{Step}
use Rattle.engine_face.specs.declared.answers.OpList.{OpList}
use Rattle.engine_face.specs.declared.answers.ValueAnswer.{ValueAnswer}
use Rattle.engine_face.specs.declared.answers.ValueAnswer.TheVariants as answer
use Rattle.engine_face.specs.declared.answers.Found.{Found}
use Rattle.engine_face.specs.declared.answers.Found.TheVariants as found
use Rattle.engine_face.specs.declared.keys.FormulaKey.{FormulaKey}
use Rattle.engine_face.specs.declared.keys.LoadKind.{LoadKind}
use Rattle.engine_face.specs.declared.keys.Scope.TheVariants as scope
use Rattle.session_words.specs.Commands.{command_of}
use Rattle.session_words.specs.Replies.{dests, states_in}
use Rattle.session_words.specs.declared.commands.Command.{Command}
use Rattle.session_words.specs.declared.commands.Command.TheVariants as command
use Rattle.session_words.specs.declared.refusals.Refusal.TheVariants as refusal
use Rattle.session_words.specs.declared.replies.Numbered.{Numbered}
use Rattle.session_words.specs.declared.replies.Reply.{Reply}
use Rattle.session_words.specs.declared.replies.Reply.TheVariants as reply
use Rattle.session_words.specs.declared.replies.SubValue.{SubValue}
use Rattle.formulas.specs.declared.subs.Sub.{Sub}
use Rattle.formulas.specs.Subscribing.{has_number, is_full as subs_are_full}
use Rattle.trace_ops.specs.Histories.{History}
use Rattle.trace_ops.specs.Traces.{back, forward, jump, is_full}
use Rattle.trace_ops.specs.declared.faults.MoveFault.{MoveFault}
use Rattle.animator.specs.Names.{place, IsNamed}
use Rattle.animator.specs.Sessions.{Session}
use Rattle.animator.specs.Following.{first_shown}
use Rattle.animator.specs.Commands.{ended, show_each, steps_in, step_of, operation_of}
use Rattle.session_core.specs.declared.held.KeptTrace.{KeptTrace}
use Rattle.session_core.specs.declared.held.Held.{Held}
use Rattle.session_core.specs.declared.stages.Arrival.{Arrival}
use Rattle.session_core.specs.declared.stages.Opening.{Opening}
use Rattle.session_core.specs.declared.stages.Opening.TheVariants as opening
use Rattle.session_core.specs.declared.stages.Change.{Change}
use Rattle.session_core.specs.declared.stages.Change.TheVariants.{Stay, Go, Add, Put, Subscribe, Unsubscribe, Keep}
use Rattle.session_core.specs.declared.stages.Stage.{Stage}
use Rattle.session_core.specs.declared.stages.Stage.TheVariants.{Listing, Taking, NamingLists, NamingStep, Evaluating, Checking, Subscribing, Finding, Telling}
use Rattle.session_core.specs.declared.stages.Next.{Next}
use Rattle.session_core.specs.declared.stages.Next.TheVariants.{Goes, Ends, Refuses}
use Rattle.session_core.specs.declared.stages.Answer.{Answer}
use Rattle.session_core.specs.declared.stages.Answer.TheVariants as given
use Rattle.session_core.specs.Moving.{numbered_step, numbered_steps, numbered_lists, numbered_in, numbered_before, packed_steps, any_step, opened, arriving, going, moving, using_kept, kept_under, keeping_under, evaluating, subscribing, searching, doing, started, started_by, is_too_long, line_next, listed, shown_lists, adding, taking, searched, valued, checked, telling, added_step, named_step, taken_on, changed_held}
use Rattle.session_core.specs.Told.{session_at, plan_at}
use Rattle.session_core.specs.Standing.{IsPlaced, HeldPlaced, ChangePlaced, OpeningPlaced, StagePlaced, ArePlaced, AnswerPlaced}
use Rattle.session_core.specs.Placing.{NextPlaced}
use Rattle.session_core.proofs.Numbering.{dests_plain}
use Rattle.session_core.proofs.Walks.{all_append, all_take, all_find, before_all, dests_all, kept_all}

some_same : {A : Type 0} (x y : A) → Some x ≡ Some y → x ≡ y
some_same x y is = cc

module _ (unpack : Unpacking) (names : List State) (root : Numbered) (held : Held) (root_placed : IsPlaced unpack names root) (placed : HeldPlaced unpack names held) where
  abbrev Placed : Next → Type 0
  Placed = NextPlaced unpack names root held

  placed_if : (b : Bool) (x y : Next) → Placed x → Placed y → Placed (if b then x else y)
  placed_if true x y p q = p
  placed_if false x y p q = q

  opened_placed : (o : Opening) (subs : List SubValue) → OpeningPlaced unpack names o → AllByRecursion (IsPlaced unpack names) (states_in (opened o subs))
  opened_placed (opening.Added step) subs p = (p, tt)
  opened_placed (opening.Moved state) subs p = (p, tt)

  arriving_placed : (subs : List Sub) (arrival : Arrival) → ChangePlaced unpack names arrival.change → OpeningPlaced unpack names arrival.opening → Placed (arriving subs arrival)
  arriving_placed [] arrival p q = (p, opened_placed arrival.opening [] q)
  arriving_placed (sub ∷ subs) arrival p q = (p, q)

  moving_placed : (r : Result (History (Step Numbered)) MoveFault) (subs : List Sub) → held.subs.list ≡ subs → Placed (moving root held r)
  moving_placed (Err fault) subs is = tt
  moving_placed (Ok t) [] is = subst (λ (l : List Sub). Placed (going l t.position (numbered_before root held.trace.steps t.position))) (sym is) (before_all (IsPlaced unpack names) root held.trace.steps t.position root_placed placed.trace, refl)
  moving_placed (Ok t) (sub ∷ subs) is = subst (λ (l : List Sub). Placed (going l t.position (numbered_before root held.trace.steps t.position))) (sym is) (tt, before_all (IsPlaced unpack names) root held.trace.steps t.position root_placed placed.trace)

  current_placed : (trace : History (Step Numbered)) → AllByRecursion (λ (step : Step Numbered). IsPlaced unpack names step.dest) trace.steps → IsPlaced unpack names (numbered_in root trace)
  current_placed trace all = before_all (IsPlaced unpack names) root trace.steps trace.position root_placed all

  using_placed : (o : Option KeptTrace) → ((one : KeptTrace) → o ≡ Some one → AllByRecursion (λ (step : Step Numbered). IsPlaced unpack names step.dest) one.trace.steps) → Placed (using_kept root held o)
  using_placed None all = tt
  using_placed (Some one) all = arriving_placed held.subs.list _ (all one refl) (current_placed one.trace (all one refl))

  evaluating_placed : (r : Result FormulaKey LoadKind) → Placed (evaluating r)
  evaluating_placed (Err kind) = tt
  evaluating_placed (Ok key) = tt

  subscribing_placed : (r : Result FormulaKey LoadKind) → Placed (subscribing held r)
  subscribing_placed (Err kind) = tt
  subscribing_placed (Ok key) = placed_if (subs_are_full held.subs) _ _ tt tt

  searching_placed : (op : OpId) (r : Result FormulaKey LoadKind) → Placed (searching op r)
  searching_placed op (Err kind) = tt
  searching_placed op (Ok key) = placed_if key.predicate _ _ tt tt

  doing_placed : (m : Meaning) (predicate : Option (List ℕ)) (op : Option OpId) → Placed (doing m predicate op)
  doing_placed m None None = tt
  doing_placed m (Some text) None = tt
  doing_placed m None (Some op) = tt
  doing_placed m (Some text) (Some op) = searching_placed op _

  started_placed : (m : Meaning) (c : Command) → Placed (started m unpack root held c)
  started_placed m command.Info = (tt, (current_placed held.trace placed.trace, tt))
  started_placed m (command.Do name predicate) = doing_placed m predicate (operation_of m.face name)
  started_placed m command.Back = moving_placed (back held.trace) held.subs.list refl
  started_placed m command.Forward = moving_placed (forward held.trace) held.subs.list refl
  started_placed m (command.Jump n) = moving_placed (jump n held.trace) held.subs.list refl
  started_placed m command.Trace = (tt, dests_all (IsPlaced unpack names) held.trace.steps placed.trace)
  started_placed m command.State = (tt, (current_placed held.trace placed.trace, tt))
  started_placed m (command.Eval text) = evaluating_placed _
  started_placed m (command.Sub text) = subscribing_placed _
  started_placed m (command.Unsub n) = placed_if (list_any (has_number n) held.subs.list) _ _ (tt, tt) tt
  started_placed m command.Subs = (tt, tt)
  started_placed m (command.Keep name) = placed_if (is_some (kept_under name held) || nat_lt (length held.kept) 64) _ _ (placed.trace, tt) tt
  started_placed m (command.Use name) = using_placed (kept_under name held) (λ one is. all_find (λ (k : KeptTrace). AllByRecursion (λ (step : Step Numbered). IsPlaced unpack names step.dest) k.trace.steps) _ held.kept one placed.kept is)
  started_placed m command.Visb = (tt, tt)
  started_placed m command.Blank = tt
  started_placed m command.Ops = tt
  started_placed m (command.Step k) = tt
  started_placed m (command.Show n) = tt
  started_placed m command.Inv = tt
  started_placed m (command.Save name) = tt
  started_placed m (command.Replay name) = tt
  started_placed m (command.Migrate from to) = tt
  started_placed m (command.Click id) = tt
  started_placed m (command.Random n seed) = tt
  started_placed m command.Quit = tt

  by_placed : (m : Meaning) (c : Option Command) → Placed (started_by m unpack root held c)
  by_placed m None = tt
  by_placed m (Some c) = started_placed m c

  -- what comes next at a line
  pub line_placed : (m : Meaning) (line : List ℕ) → Placed (line_next m unpack root held line)
  line_placed m line = placed_if (is_too_long line) _ _ tt (by_placed m (command_of line))

  -- ---- answers

  placed_front : (xs ys : List State) (ns : List ℕ) → ArePlaced unpack names (xs ++ ys) ns → ArePlaced unpack names xs (take (length xs) ns)
  placed_front [] ys ns all = tt
  placed_front (x ∷ xs) ys [] all = absurd all
  placed_front (x ∷ xs) ys (n ∷ ns) all = (all.0, placed_front xs ys ns all.1)

  placed_behind : (xs ys : List State) (ns : List ℕ) → ArePlaced unpack names (xs ++ ys) ns → ArePlaced unpack names ys (drop (length xs) ns)
  placed_behind [] ys ns all = all
  placed_behind (x ∷ xs) ys [] all = absurd all
  placed_behind (x ∷ xs) ys (n ∷ ns) all = placed_behind xs ys ns all.1

  steps_placed : (steps : List (Step (List ℕ))) (ns : List ℕ) → ArePlaced unpack names (map (state_of unpack) (dests steps)) ns → AllByRecursion (IsPlaced unpack names) (dests (numbered_steps steps ns))
  steps_placed [] ns all = tt
  steps_placed (step ∷ steps) [] all = tt
  steps_placed (step ∷ steps) (n ∷ ns) all = (record { named = all.0.0; place = all.0.1 }, steps_placed steps ns all.1)

  dests_append : (xs ys : List (Step (List ℕ))) → map (state_of unpack) (dests (xs ++ ys)) ≡ map (state_of unpack) (dests xs) ++ map (state_of unpack) (dests ys)
  dests_append [] ys = refl
  dests_append (x ∷ xs) ys = ap (λ (l : List State). state_of unpack x.dest ∷ l) (dests_append xs ys)

  dests_length : (xs : List (Step (List ℕ))) → length (map (state_of unpack) (dests xs)) ≡ length xs
  dests_length [] = refl
  dests_length (x ∷ xs) = ap suc (dests_length xs)

  lists_placed : (lists : List (OpList (List ℕ))) (ns : List ℕ) → ArePlaced unpack names (map (state_of unpack) (dests (packed_steps lists))) ns
      → AllByRecursion (IsPlaced unpack names) (flat_map (λ (ops : OpList Numbered). dests ops.steps) (numbered_lists lists ns))
  lists_placed [] ns all = tt
  lists_placed (list ∷ lists) ns all =
      let split = subst (λ (l : List State). ArePlaced unpack names l ns) (dests_append list.steps (packed_steps lists)) all in
      let front = subst (λ (n : ℕ). ArePlaced unpack names (map (state_of unpack) (dests list.steps)) (take n ns)) (dests_length list.steps) (placed_front _ _ ns split) in
      let behind = subst (λ (n : ℕ). ArePlaced unpack names (map (state_of unpack) (dests (packed_steps lists))) (drop n ns)) (dests_length list.steps) (placed_behind _ _ ns split) in
      all_append (IsPlaced unpack names) (dests (numbered_steps list.steps (take (length list.steps) ns))) _ (steps_placed list.steps _ front) (lists_placed lists _ behind)

  none_placed : (lists : List (OpList (List ℕ))) → AllByRecursion (IsPlaced unpack names) (flat_map (λ (ops : OpList Numbered). dests ops.steps) (numbered_lists lists []))
  none_placed [] = tt
  none_placed (list ∷ lists) = all_append (IsPlaced unpack names) (dests (numbered_steps list.steps (take (length list.steps) []))) _ (no_steps list.steps (length list.steps)) (left (length list.steps) lists (none_placed lists))
    where
      no_steps : (steps : List (Step (List ℕ))) (n : ℕ) → AllByRecursion (IsPlaced unpack names) (dests (numbered_steps steps (take n [])))
      no_steps [] n = tt
      no_steps (step ∷ steps) zero = tt
      no_steps (step ∷ steps) (suc n) = tt

      left : (n : ℕ) (ls : List (OpList (List ℕ))) → AllByRecursion (IsPlaced unpack names) (flat_map (λ (ops : OpList Numbered). dests ops.steps) (numbered_lists ls [])) → AllByRecursion (IsPlaced unpack names) (flat_map (λ (ops : OpList Numbered). dests ops.steps) (numbered_lists ls (drop n [])))
      left zero ls h = h
      left (suc n) ls h = h

  adding_placed : (step : Step (List ℕ)) → Placed (adding held step)
  adding_placed step = placed_if (is_full held.trace) _ _ tt tt

  taking_placed : (step : Option (Step (List ℕ))) → Placed (taking held step)
  taking_placed None = tt
  taking_placed (Some step) = adding_placed step

  searched_placed : (f : Found (List ℕ)) → Placed (searched held f)
  searched_placed found.Nothing = tt
  searched_placed (found.Fault fault) = tt
  searched_placed (found.Step step) = adding_placed step

  valued_placed : (v : ValueAnswer) → Placed (valued v)
  valued_placed answer.NotInitialised = tt
  valued_placed (answer.Fault fault) = tt
  valued_placed (answer.Value value bounded) = (tt, tt)

  checked_placed : (v : ValueAnswer) → Placed (checked v)
  checked_placed answer.NotInitialised = tt
  checked_placed (answer.Fault fault) = tt
  checked_placed (answer.Value value bounded) = (tt, tt)

  named_placed : (step : Step (List ℕ)) (ns : List ℕ) (next : Next) → ArePlaced unpack names (state_of unpack step.dest ∷ []) ns → named_step held step ns ≡ Some next → Placed next
  named_placed step [] next all is = cc
  named_placed step (n ∷ ns) next all is =
      let p : IsPlaced unpack names (record { state = step.dest; number = n }) = record { named = all.0.0; place = all.0.1 } in
      subst Placed (some_same _ _ is) (arriving_placed held.subs.list _ p p)

  telling_placed : (subs : List Sub) (arrival : Arrival) (told : List SubValue) (v : ValueAnswer) (next : Next) → ChangePlaced unpack names arrival.change → OpeningPlaced unpack names arrival.opening → telling subs arrival told v ≡ Some next → Placed next
  telling_placed [] arrival told v next p q is = cc
  telling_placed (sub ∷ []) arrival told v next p q is = subst Placed (some_same _ _ is) (p, opened_placed arrival.opening _ q)
  telling_placed (sub ∷ other ∷ subs) arrival told v next p q is = subst Placed (some_same _ _ is) (p, q)

  shown_first : (states : List State) (s : Session) (r : Reply State) → first_shown (show_each states (ended s r)) ≡ states
  shown_first [] s r = refl
  shown_first (state ∷ states) s r = refl

  -- what comes next at an answer
  pub fed_placed : (m : Meaning) (shown : List State) (stage : Stage) (a : Answer) (next : Next) → StagePlaced unpack names stage
      → AnswerPlaced unpack names (plan_at unpack m.root (session_at unpack shown held) stage) a → taken_on held stage a ≡ Some next → Placed next
  fed_placed m shown Listing (given.Steps lists) next p q is =
      subst Placed (some_same _ _ is) (placed_if (any_step lists.lists) _ _ tt (tt, none_placed lists.lists))
  fed_placed m shown (Taking k) (given.Steps lists) next p q is = subst Placed (some_same _ _ is) (taking_placed _)
  fed_placed m shown (NamingLists lists) (given.Names numbers) next p q is =
      subst Placed (some_same _ _ is) (
        tt,
        lists_placed lists.lists numbers
            (subst (λ (l : List State). ArePlaced unpack names l numbers) (shown_first (dests (steps_in (plain_lists unpack lists))) (session_at unpack shown held) (reply.Lists (plain_lists unpack lists)) ∙ dests_plain unpack lists) q),
      )
  fed_placed m shown (NamingStep step) (given.Names numbers) next p q is = named_placed step numbers next q is
  fed_placed m shown (Evaluating key) (given.Value value) next p q is = subst Placed (some_same _ _ is) (valued_placed value)
  fed_placed m shown Checking (given.Value value) next p q is = subst Placed (some_same _ _ is) (checked_placed value)
  fed_placed m shown (Subscribing key) (given.Value value) next p q is = subst Placed (some_same _ _ is) (tt, tt)
  fed_placed m shown (Finding op preds) (given.Find f) next p q is = subst Placed (some_same _ _ is) (searched_placed f)
  fed_placed m shown (Telling arrival told) (given.Value value) next p q is = telling_placed _ arrival told value next p.0 p.1 is
  fed_placed m shown _ _ next p q is = cc

  -- ---- changes

  pub changed_placed : (change : Change) → ChangePlaced unpack names change → HeldPlaced unpack names (changed_held held change)
  changed_placed Stay p = placed
  changed_placed (Go n) p = record { trace = placed.trace; kept = placed.kept }
  changed_placed (Add step) p = record {
    trace = all_append (λ (s : Step Numbered). IsPlaced unpack names s.dest) (take held.trace.position held.trace.steps) (step ∷ []) (all_take (λ (s : Step Numbered). IsPlaced unpack names s.dest) held.trace.position held.trace.steps placed.trace) (p, tt);
    kept = placed.kept;
  }
  changed_placed (Put trace) p = record { trace = p; kept = placed.kept }
  changed_placed (Subscribe key) p = record { trace = placed.trace; kept = placed.kept }
  changed_placed (Unsubscribe n) p = record { trace = placed.trace; kept = placed.kept }
  changed_placed (Keep one) p = record { trace = placed.trace; kept = kept_all (IsPlaced unpack names) one held.kept p placed.kept }
