-- What a session goes on with belongs to the engine's machine.
use Rattle.std.proofs.Common.{◌≡◌, ◌∙◌, ◌<◌, inl, inr, sym, ap, subst, refl, ℕ, zero, suc, ◌+◌, Bool, true, false, ◌||◌, ◌&&◌, nat_lt, List, [], ◌∷◌, ◌++◌, length, map, take, drop, Option, Some, None, IsSome, Result, Ok, Err, slice_get, if◌then◌else◌, codes, arith}
use Rattle.std.specs.Prelude.{is_some}
use Rattle.std.specs.List.{list_any, AllByRecursion, position}
use Rattle.b_values.specs.declared.types.Face.{Face}
use Rattle.b_values.specs.declared.types.OpId.{OpId}
use Rattle.b_values.specs.declared.values.State.{State}
use Rattle.engine_face.specs.Meaning.{Meaning, IsAccepted, IsAskable, IsPredicateOf, KeysHaveTexts}
use Rattle.engine_face.specs.Packing.{Unpacking, IsPacked}
use Rattle.engine_face.specs.Typing.{IsOpOf}
use Rattle.engine_face.specs.declared.answers.Step.{Step}
use Rattle.engine_face.specs.declared.answers.ValueAnswer.{ValueAnswer}
use Rattle.engine_face.specs.declared.answers.ValueAnswer.TheVariants as answer
use Rattle.engine_face.specs.declared.answers.Found.{Found}
use Rattle.engine_face.specs.declared.answers.Found.TheVariants as found
use Rattle.engine_face.specs.declared.keys.FormulaKey.{FormulaKey}
use Rattle.engine_face.specs.declared.keys.LoadKind.{LoadKind}
use Rattle.engine_face.specs.declared.keys.Scope.{Scope}
use Rattle.engine_face.specs.declared.keys.Scope.TheVariants as scope
use Rattle.session_words.specs.Commands.{command_of}
use Rattle.session_words.specs.Replies.{dests}
use Rattle.session_words.specs.declared.commands.Command.{Command}
use Rattle.session_words.specs.declared.commands.Command.TheVariants as command
use Rattle.session_words.specs.declared.refusals.Refusal.TheVariants as refusal
use Rattle.session_words.specs.declared.replies.Numbered.{Numbered}
use Rattle.session_words.specs.declared.replies.SubValue.{SubValue}
use Rattle.formulas.specs.declared.subs.Sub.{Sub}
use Rattle.formulas.specs.Subscribing.{has_number, is_full as subs_are_full}
use Rattle.trace_ops.specs.Histories.{History}
use Rattle.trace_ops.specs.Traces.{back, forward, jump, is_full}
use Rattle.trace_ops.specs.declared.faults.MoveFault.{MoveFault}
use Rattle.animator.specs.Commands.{step_of, operation_of}
use Rattle.session_core.specs.declared.held.KeptTrace.{KeptTrace}
use Rattle.session_core.specs.declared.held.Held.{Held}
use Rattle.session_core.specs.declared.stages.Arrival.{Arrival}
use Rattle.session_core.specs.declared.stages.Change.{Change}
use Rattle.session_core.specs.declared.stages.Change.TheVariants.{Stay, Go, Add, Put, Subscribe, Unsubscribe, Keep}
use Rattle.session_core.specs.declared.stages.Stage.{Stage}
use Rattle.session_core.specs.declared.stages.Stage.TheVariants.{Listing, Taking, NamingLists, NamingStep, Evaluating, Checking, Subscribing, Finding, Telling}
use Rattle.session_core.specs.declared.stages.Next.{Next}
use Rattle.session_core.specs.declared.stages.Next.TheVariants.{Goes, Ends, Refuses}
use Rattle.session_core.specs.declared.stages.Need.{Need}
use Rattle.session_core.specs.declared.stages.Need.TheVariants as needs
use Rattle.session_core.specs.declared.stages.Answer.{Answer}
use Rattle.session_core.specs.declared.stages.Answer.TheVariants as given
use Rattle.session_core.specs.Moving.{numbered_step, numbered_in, numbered_before, packed_steps, any_step, arriving, going, moving, using_kept, kept_under, evaluating, subscribing, searching, doing, started, started_by, is_too_long, line_next, adding, taking, searched, valued, checked, telling, named_step, taken_on, changed_held, names_needed, value_needed, needed}
use Rattle.session_core.specs.Fitting.{RootFits, StepsFit, HeldFits, ChangeFits, StageFits, NextFits, FoundFits, AnswerFits, IsAskableNeed}
use Rattle.session_core.proofs.Operations.{named_op}
use Rattle.session_core.proofs.Walks.{all_append, all_take, all_filter, all_find, all_get, before_all, kept_all}

some_same : {A : Type 0} (x y : A) → Some x ≡ Some y → x ≡ y
some_same x y is = cc

packed_some : (o : Option State) (s : State) → o ≡ Some s → IsSome o
packed_some o s is = subst (λ (p : Option State). IsSome p) (sym is) refl

-- a key that was read is accepted
accepted : (m : Meaning) (s : Scope) (text : List ℕ) (key : FormulaKey) → KeysHaveTexts m → m.read_formula s text ≡ Ok key → IsAccepted m s key
accepted m s text key texts is = subst (λ (t : List ℕ). m.read_formula s t ≡ Ok key) (sym (texts s text key is)) is

module _ (m : Meaning) (unpack : Unpacking) (root : Numbered) (held : Held) (texts : KeysHaveTexts m) (root_fits : RootFits m unpack root) (fits : HeldFits m unpack held) where
  abbrev Fits : Next → Type 0
  Fits = NextFits m unpack

  abbrev Packed : Numbered → Type 0
  Packed d = IsPacked unpack d.state

  fits_if : (b : Bool) (x y : Next) → Fits x → Fits y → Fits (if b then x else y)
  fits_if true x y p q = p
  fits_if false x y p q = q

  root_packed : Packed root
  root_packed = packed_some (unpack root.state) m.root root_fits

  -- the current state is one of the machine
  pub current_packed : (trace : History (Step Numbered)) → StepsFit m unpack trace.steps → Packed (numbered_in root trace)
  current_packed trace all = before_all Packed root trace.steps trace.position root_packed all

  arriving_fits : (subs : List Sub) (arrival : Arrival) → Packed arrival.at → ChangeFits m unpack arrival.change → Fits (arriving subs arrival)
  arriving_fits [] arrival p q = q
  arriving_fits (sub ∷ subs) arrival p q = (p, q)

  going_fits : (subs : List Sub) (n : ℕ) (at : Numbered) → Packed at → Fits (going subs n at)
  going_fits [] n at p = tt
  going_fits (sub ∷ subs) n at p = (p, tt)

  moving_fits : (r : Result (History (Step Numbered)) MoveFault) → Fits (moving root held r)
  moving_fits (Err fault) = tt
  moving_fits (Ok t) = going_fits held.subs.list t.position _ (before_all Packed root held.trace.steps t.position root_packed fits.trace)

  using_fits : (o : Option KeptTrace) → ((one : KeptTrace) → o ≡ Some one → StepsFit m unpack one.trace.steps) → Fits (using_kept root held o)
  using_fits None all = tt
  using_fits (Some one) all = arriving_fits held.subs.list _ (current_packed one.trace (all one refl)) (all one refl)

  evaluating_fits : (text : List ℕ) (r : Result FormulaKey LoadKind) → m.read_formula scope.State text ≡ r → Fits (evaluating r)
  evaluating_fits text (Err kind) is = tt
  evaluating_fits text (Ok key) is = accepted m scope.State text key texts is

  subscribing_fits : (text : List ℕ) (r : Result FormulaKey LoadKind) → m.read_formula scope.State text ≡ r → Fits (subscribing held r)
  subscribing_fits text (Err kind) is = tt
  subscribing_fits text (Ok key) is = fits_if (subs_are_full held.subs) _ _ tt (accepted m scope.State text key texts is)

  predicate_by : (b : Bool) (op : OpId) (key : FormulaKey) → key.predicate ≡ b → IsOpOf m.face op → IsAccepted m (scope.Op op) key → Fits (if b then Goes (Finding op (key ∷ [])) else Refuses refusal.Syntax)
  predicate_by true op key is there read = (there, (record { accepted = read; predicate = is }, tt))
  predicate_by false op key is there read = tt

  searching_fits : (op : OpId) (text : List ℕ) (r : Result FormulaKey LoadKind) → IsOpOf m.face op → m.read_formula (scope.Op op) text ≡ r → Fits (searching op r)
  searching_fits op text (Err kind) there is = tt
  searching_fits op text (Ok key) there is = predicate_by key.predicate op key refl there (accepted m (scope.Op op) text key texts is)

  doing_fits : (predicate : Option (List ℕ)) (o : Option OpId) → ((op : OpId) → o ≡ Some op → IsOpOf m.face op) → Fits (doing m predicate o)
  doing_fits None None there = tt
  doing_fits (Some text) None there = tt
  doing_fits None (Some op) there = (there op refl, tt)
  doing_fits (Some text) (Some op) there = searching_fits op text (m.read_formula (scope.Op op) text) (there op refl) refl

  started_fits : (c : Command) → Fits (started m unpack root held c)
  started_fits (command.Do name predicate) = doing_fits predicate (operation_of m.face name) (λ which is. named_op m.face name which is)
  started_fits command.Back = moving_fits (back held.trace)
  started_fits command.Forward = moving_fits (forward held.trace)
  started_fits (command.Jump n) = moving_fits (jump n held.trace)
  started_fits (command.Eval text) = evaluating_fits text (m.read_formula scope.State text) refl
  started_fits (command.Sub text) = subscribing_fits text (m.read_formula scope.State text) refl
  started_fits (command.Unsub n) = fits_if (list_any (has_number n) held.subs.list) _ _ tt tt
  started_fits (command.Keep name) = fits_if (is_some (kept_under name held) || nat_lt (length held.kept) 64) _ _ fits.trace tt
  started_fits (command.Use name) = using_fits (kept_under name held) (λ one is. all_find (λ (k : KeptTrace). StepsFit m unpack k.trace.steps) _ held.kept one fits.kept is)
  started_fits command.Info = tt
  started_fits command.Trace = tt
  started_fits command.State = tt
  started_fits command.Subs = tt
  started_fits command.Visb = tt
  started_fits command.Blank = tt
  started_fits command.Ops = tt
  started_fits (command.Step k) = tt
  started_fits (command.Show n) = tt
  started_fits command.Inv = tt
  started_fits (command.Save name) = tt
  started_fits (command.Replay name) = tt
  started_fits (command.Migrate from to) = tt
  started_fits (command.Click id) = tt
  started_fits (command.Random n seed) = tt
  started_fits command.Quit = tt

  by_fits : (c : Option Command) → Fits (started_by m unpack root held c)
  by_fits None = tt
  by_fits (Some c) = started_fits c

  -- what comes next at a line
  pub line_fits : (line : List ℕ) → Fits (line_next m unpack root held line)
  line_fits line = fits_if (is_too_long line) _ _ tt (by_fits (command_of line))

  -- ---- answers

  adding_fits : (step : Step (List ℕ)) → IsPacked unpack step.dest → Fits (adding held step)
  adding_fits step p = fits_if (is_full held.trace) _ _ tt p

  packed_get : (steps : List (Step (List ℕ))) (i : ℕ) (step : Step (List ℕ)) → AllByRecursion (IsPacked unpack) (dests steps) → slice_get steps i ≡ Some step → IsPacked unpack step.dest
  packed_get [] i step all is = cc
  packed_get (s ∷ steps) zero step all is = let same : s ≡ step = cc in subst (λ (t : Step (List ℕ)). IsPacked unpack t.dest) same all.0
  packed_get (s ∷ steps) (suc i) step all is = packed_get steps i step all.1 is

  taking_by : (o : Option (Step (List ℕ))) → ((step : Step (List ℕ)) → o ≡ Some step → IsPacked unpack step.dest) → Fits (taking held o)
  taking_by None all = tt
  taking_by (Some step) all = adding_fits step (all step refl)

  taking_fits : (steps : List (Step (List ℕ))) (k : ℕ) → AllByRecursion (IsPacked unpack) (dests steps) → Fits (taking held (step_of steps k))
  taking_fits steps zero all = tt
  taking_fits steps (suc k) all = taking_by (slice_get steps k) (λ step is. packed_get steps k step all is)

  searched_fits : (f : Found (List ℕ)) → FoundFits m unpack f → Fits (searched held f)
  searched_fits found.Nothing p = tt
  searched_fits (found.Fault fault) p = tt
  searched_fits (found.Step step) p = adding_fits step p

  valued_fits : (v : ValueAnswer) → Fits (valued v)
  valued_fits answer.NotInitialised = tt
  valued_fits (answer.Fault fault) = tt
  valued_fits (answer.Value value bounded) = tt

  checked_fits : (v : ValueAnswer) → Fits (checked v)
  checked_fits answer.NotInitialised = tt
  checked_fits (answer.Fault fault) = tt
  checked_fits (answer.Value value bounded) = tt

  named_fits : (step : Step (List ℕ)) (ns : List ℕ) (next : Next) → IsPacked unpack step.dest → named_step held step ns ≡ Some next → Fits next
  named_fits step [] next p is = cc
  named_fits step (n ∷ ns) next p is = subst Fits (some_same _ _ is) (arriving_fits held.subs.list _ p p)

  telling_fits : (subs : List Sub) (arrival : Arrival) (told : List SubValue) (v : ValueAnswer) (next : Next) → Packed arrival.at → ChangeFits m unpack arrival.change → telling subs arrival told v ≡ Some next → Fits next
  telling_fits [] arrival told v next p q is = cc
  telling_fits (sub ∷ []) arrival told v next p q is = subst Fits (some_same _ _ is) q
  telling_fits (sub ∷ other ∷ subs) arrival told v next p q is = subst Fits (some_same _ _ is) (p, q)

  -- what comes next at an answer
  pub fed_fits : (stage : Stage) (a : Answer) (next : Next) → StageFits m unpack stage → AnswerFits m unpack a → taken_on held stage a ≡ Some next → Fits next
  fed_fits Listing (given.Steps lists) next p q is = subst Fits (some_same _ _ is) (fits_if (any_step lists.lists) _ _ q tt)
  fed_fits (Taking k) (given.Steps lists) next p q is = subst Fits (some_same _ _ is) (taking_fits (packed_steps lists.lists) k q)
  fed_fits (NamingLists lists) (given.Names numbers) next p q is = subst Fits (some_same _ _ is) tt
  fed_fits (NamingStep step) (given.Names numbers) next p q is = named_fits step numbers next p is
  fed_fits (Evaluating key) (given.Value value) next p q is = subst Fits (some_same _ _ is) (valued_fits value)
  fed_fits Checking (given.Value value) next p q is = subst Fits (some_same _ _ is) (checked_fits value)
  fed_fits (Subscribing key) (given.Value value) next p q is = subst Fits (some_same _ _ is) p
  fed_fits (Finding op preds) (given.Find f) next p q is = subst Fits (some_same _ _ is) (searched_fits f q)
  fed_fits (Telling arrival told) (given.Value value) next p q is = telling_fits _ arrival told value next p.0 p.1 is
  fed_fits _ _ next p q is = cc

  -- ---- changes

  pub changed_fits : (change : Change) → ChangeFits m unpack change → HeldFits m unpack (changed_held held change)
  changed_fits Stay p = fits
  changed_fits (Go n) p = record { trace = fits.trace; kept = fits.kept; subs = fits.subs }
  changed_fits (Add step) p = record {
    trace = all_append (λ (s : Step Numbered). Packed s.dest) (take held.trace.position held.trace.steps) (step ∷ []) (all_take (λ (s : Step Numbered). Packed s.dest) held.trace.position held.trace.steps fits.trace) (p, tt);
    kept = fits.kept;
    subs = fits.subs;
  }
  changed_fits (Put trace) p = record { trace = p; kept = fits.kept; subs = fits.subs }
  changed_fits (Subscribe key) p = record {
    trace = fits.trace;
    kept = fits.kept;
    subs = all_append (λ (sub : Sub). IsAccepted m scope.State sub.key) held.subs.list (record { number = held.subs.next; key = key } ∷ []) fits.subs (p, tt);
  }
  changed_fits (Unsubscribe n) p = record { trace = fits.trace; kept = fits.kept; subs = all_filter (λ (sub : Sub). IsAccepted m scope.State sub.key) _ held.subs.list fits.subs }
  changed_fits (Keep one) p = record { trace = fits.trace; kept = kept_all Packed one held.kept p fits.kept; subs = fits.subs }

  -- ---- needs

  names_ask : (states : List (List ℕ)) (need : Need) → AllByRecursion (IsPacked unpack) states → names_needed states ≡ Some need → IsAskableNeed m unpack need
  names_ask [] need all is = cc
  names_ask (state ∷ states) need all is = subst (IsAskableNeed m unpack) (some_same _ _ is) all

  value_ask : (o : Option Sub) (at : Numbered) (need : Need) → Packed at → ((sub : Sub) → o ≡ Some sub → IsAccepted m scope.State sub.key) → value_needed at o ≡ Some need → IsAskableNeed m unpack need
  value_ask None at need p all is = cc
  value_ask (Some sub) at need p all is = subst (IsAskableNeed m unpack) (some_same _ _ is) (p, inr (all sub refl))

  -- what a stage needs may be asked
  pub need_fits : (stage : Stage) (need : Need) → StageFits m unpack stage → needed root held stage ≡ Some need → IsAskableNeed m unpack need
  need_fits Listing need p is = subst (IsAskableNeed m unpack) (some_same _ _ is) (current_packed held.trace fits.trace)
  need_fits (Taking k) need p is = subst (IsAskableNeed m unpack) (some_same _ _ is) (current_packed held.trace fits.trace)
  need_fits (NamingLists lists) need p is = names_ask (dests (packed_steps lists.lists)) need p is
  need_fits (NamingStep step) need p is = subst (IsAskableNeed m unpack) (some_same _ _ is) (p, tt)
  need_fits (Evaluating key) need p is = subst (IsAskableNeed m unpack) (some_same _ _ is) (current_packed held.trace fits.trace, inr p)
  need_fits Checking need p is = subst (IsAskableNeed m unpack) (some_same _ _ is) (current_packed held.trace fits.trace, inl refl)
  need_fits (Subscribing key) need p is = subst (IsAskableNeed m unpack) (some_same _ _ is) (current_packed held.trace fits.trace, inr p)
  need_fits (Finding op preds) need p is = subst (IsAskableNeed m unpack) (some_same _ _ is) (current_packed held.trace fits.trace, p.0, p.1)
  need_fits (Telling arrival told) need p is =
      value_ask (slice_get held.subs.list (length told)) arrival.at need p.0 (λ sub at. all_get (λ (s : Sub). IsAccepted m scope.State s.key) held.subs.list (length told) sub fits.subs at) is
