-- A session quits at `quit` alone, and memory as an answer is always told.
use Rattle.std.proofs.Common.{◌≡◌, ◌∙◌, sym, ap, refl, ℕ, zero, suc, Bool, true, false, ◌||◌, nat_lt, List, [], ◌∷◌, length, drop, Option, Some, None, Result, Ok, Err, slice_get, if◌then◌else◌}
use Rattle.std.specs.Prelude.{is_some}
use Rattle.std.specs.List.{list_any}
use Rattle.b_values.specs.declared.types.Face.{Face}
use Rattle.b_values.specs.declared.types.OpId.{OpId}
use Rattle.engine_face.specs.Meaning.{Meaning}
use Rattle.engine_face.specs.Packing.{Unpacking}
use Rattle.engine_face.specs.declared.answers.Step.{Step}
use Rattle.engine_face.specs.declared.answers.ValueAnswer.{ValueAnswer}
use Rattle.engine_face.specs.declared.answers.ValueAnswer.TheVariants as answer
use Rattle.engine_face.specs.declared.answers.Found.{Found}
use Rattle.engine_face.specs.declared.answers.Found.TheVariants as found
use Rattle.engine_face.specs.declared.keys.FormulaKey.{FormulaKey}
use Rattle.engine_face.specs.declared.keys.LoadKind.{LoadKind}
use Rattle.engine_face.specs.declared.keys.Scope.TheVariants as scope
use Rattle.session_words.specs.Commands.{command_of}
use Rattle.session_words.specs.declared.commands.Command.{Command}
use Rattle.session_words.specs.declared.commands.Command.TheVariants as command
use Rattle.session_words.specs.declared.replies.Numbered.{Numbered}
use Rattle.session_words.specs.declared.replies.SubValue.{SubValue}
use Rattle.formulas.specs.declared.subs.Sub.{Sub}
use Rattle.formulas.specs.Subscribing.{has_number, is_full as subs_are_full}
use Rattle.trace_ops.specs.Histories.{History}
use Rattle.trace_ops.specs.Traces.{back, forward, jump, is_full}
use Rattle.trace_ops.specs.declared.faults.MoveFault.{MoveFault}
use Rattle.animator.specs.Commands.{step_of, operation_of}
use Rattle.animator.specs.History.{quits_by}
use Rattle.session_core.specs.declared.core_of.At.{At}
use Rattle.session_core.specs.declared.core_of.At.TheVariants.{Replying, Quitting}
use Rattle.session_core.specs.declared.core_of.Turn.{Turn}
use Rattle.session_core.specs.declared.held.KeptTrace.{KeptTrace}
use Rattle.session_core.specs.declared.held.Held.{Held}
use Rattle.session_core.specs.declared.stages.Arrival.{Arrival}
use Rattle.session_core.specs.declared.stages.Stage.{Stage}
use Rattle.session_core.specs.declared.stages.Stage.TheVariants.{Listing, Taking, NamingLists, NamingStep, Evaluating, Checking, Subscribing, Finding, Telling}
use Rattle.session_core.specs.declared.stages.Next.{Next}
use Rattle.session_core.specs.declared.stages.Next.TheVariants.{Goes, Ends, Refuses, Silent, Moves, Quits}
use Rattle.session_core.specs.declared.stages.Answer.{Answer}
use Rattle.session_core.specs.declared.stages.Answer.TheVariants as given
use Rattle.session_core.specs.Moving.{packed_steps, any_step, arriving, going, moving, using_kept, kept_under, evaluating, subscribing, searching, doing, started, started_by, is_too_long, line_next, adding, taking, searched, valued, checked, telling, named_step, taken_on, takes_no_memory, spared_by, line_spared}
use Rattle.session_core.specs.Settling.{Settled, quits_at, quits_next, quits_line, is_asking}

not_asking : (at a : At) → at ≡ a → is_asking a ≡ false → is_asking at ≡ true → ⊥
not_asking at a is none asking =
    let wrong : false ≡ true = sym none ∙ ap is_asking (sym is) ∙ asking in
    cc

quits_if : (b : Bool) (x y : Next) → quits_next x ≡ false → quits_next y ≡ false → quits_next (if b then x else y) ≡ false
quits_if true x y p q = p
quits_if false x y p q = q

-- ---- a line

going_not : (subs : List Sub) (n : ℕ) (at : Numbered) → quits_next (going subs n at) ≡ false
going_not [] n at = refl
going_not (sub ∷ subs) n at = refl

arriving_not : (subs : List Sub) (arrival : Arrival) → quits_next (arriving subs arrival) ≡ false
arriving_not [] arrival = refl
arriving_not (sub ∷ subs) arrival = refl

moving_not : (root : Numbered) (held : Held) (r : Result (History (Step Numbered)) MoveFault) → quits_next (moving root held r) ≡ false
moving_not root held (Err fault) = refl
moving_not root held (Ok t) = going_not held.subs.list t.position _

using_not : (root : Numbered) (held : Held) (o : Option KeptTrace) → quits_next (using_kept root held o) ≡ false
using_not root held None = refl
using_not root held (Some one) = arriving_not held.subs.list _

evaluating_not : (r : Result FormulaKey LoadKind) → quits_next (evaluating r) ≡ false
evaluating_not (Err kind) = refl
evaluating_not (Ok key) = refl

subscribing_not : (held : Held) (r : Result FormulaKey LoadKind) → quits_next (subscribing held r) ≡ false
subscribing_not held (Err kind) = refl
subscribing_not held (Ok key) = quits_if (subs_are_full held.subs) _ _ refl refl

searching_not : (op : OpId) (r : Result FormulaKey LoadKind) → quits_next (searching op r) ≡ false
searching_not op (Err kind) = refl
searching_not op (Ok key) = quits_if key.predicate _ _ refl refl

doing_not : (m : Meaning) (predicate : Option (List ℕ)) (op : Option OpId) → quits_next (doing m predicate op) ≡ false
doing_not m None None = refl
doing_not m (Some text) None = refl
doing_not m None (Some op) = refl
doing_not m (Some text) (Some op) = searching_not op (m.read_formula (scope.Op op) text)

module _ (m : Meaning) (unpack : Unpacking) (root : Numbered) (held : Held) where
  started_quits : (c : Command) → quits_next (started m unpack root held c) ≡ quits_by (Some c)
  started_quits (command.Do name predicate) = doing_not m predicate (operation_of m.face name)
  started_quits command.Back = moving_not root held (back held.trace)
  started_quits command.Forward = moving_not root held (forward held.trace)
  started_quits (command.Jump n) = moving_not root held (jump n held.trace)
  started_quits (command.Eval text) = evaluating_not (m.read_formula scope.State text)
  started_quits (command.Sub text) = subscribing_not held (m.read_formula scope.State text)
  started_quits (command.Unsub n) = quits_if (list_any (has_number n) held.subs.list) _ _ refl refl
  started_quits (command.Keep name) = quits_if (is_some (kept_under name held) || nat_lt (length held.kept) 64) _ _ refl refl
  started_quits (command.Use name) = using_not root held (kept_under name held)
  started_quits command.Info = refl
  started_quits command.Trace = refl
  started_quits command.State = refl
  started_quits command.Subs = refl
  started_quits command.Visb = refl
  started_quits command.Blank = refl
  started_quits command.Ops = refl
  started_quits (command.Step k) = refl
  started_quits (command.Show n) = refl
  started_quits command.Inv = refl
  started_quits (command.Save name) = refl
  started_quits (command.Replay name) = refl
  started_quits (command.Migrate from to) = refl
  started_quits (command.Click id) = refl
  started_quits (command.Random n seed) = refl
  started_quits command.Quit = refl

  by_quits : (c : Option Command) → quits_next (started_by m unpack root held c) ≡ quits_by c
  by_quits None = refl
  by_quits (Some c) = started_quits c

  line_by : (long : Bool) (c : Option Command) (x : Next) → quits_next x ≡ false
      → quits_next (if long then x else started_by m unpack root held c) ≡ (if long then false else quits_by c)
  line_by true c x is = is
  line_by false c x is = by_quits c

  -- what comes next at a line quits exactly at `quit`
  line_quits : (line : List ℕ) → quits_next (line_next m unpack root held line) ≡ quits_line line
  line_quits line = line_by (is_too_long line) (command_of line) _ refl

  quit_spared : (c : Option Command) → quits_by c ≡ true → spared_by held c ≡ true
  quit_spared None is = cc
  quit_spared (Some command.Quit) is = refl
  quit_spared (Some _) is = cc

  spared_line : (long : Bool) (c : Option Command) → (if long then false else quits_by c) ≡ true → (if long then true else spared_by held c) ≡ true
  spared_line true c is = refl
  spared_line false c is = quit_spared c is

  -- `quit` takes no memory
  pub quits_spared : (line : List ℕ) → quits_line line ≡ true → line_spared held line ≡ true
  quits_spared line is = spared_line (is_too_long line) (command_of line) is

  module _ (face : Face) (new : Held) (turn : Turn) where
    settled_quits : (next : Next) → Settled root held face next new turn → quits_at turn.at ≡ quits_next next
    settled_quits (Goes stage) settled = ap quits_at settled.2
    settled_quits (Ends change reply) settled = ap quits_at settled.1
    settled_quits (Refuses why) settled = ap quits_at settled.1
    settled_quits Silent settled = ap quits_at settled.1
    settled_quits (Moves n number) settled = ap quits_at settled.1
    settled_quits Quits settled = ap quits_at settled.1

    -- within a command nothing that is held has changed
    pub settled_unchanged : (next : Next) → Settled root held face next new turn → is_asking turn.at ≡ true → new ≡ held
    settled_unchanged (Goes stage) settled asking = settled.0
    settled_unchanged (Ends change reply) settled asking = absurd (not_asking turn.at Replying settled.1 refl asking)
    settled_unchanged (Refuses why) settled asking = absurd (not_asking turn.at Replying settled.1 refl asking)
    settled_unchanged Silent settled asking = absurd (not_asking turn.at Replying settled.1 refl asking)
    settled_unchanged (Moves n number) settled asking = absurd (not_asking turn.at Replying settled.1 refl asking)
    settled_unchanged Quits settled asking = absurd (not_asking turn.at Quitting settled.1 refl asking)

    pub line_settled : (line : List ℕ) → Settled root held face (line_next m unpack root held line) new turn → quits_at turn.at ≡ quits_line line
    line_settled line settled = settled_quits (line_next m unpack root held line) settled ∙ line_quits line

    pub fed_settled : (next : Next) → quits_next next ≡ false → Settled root held face next new turn → quits_at turn.at ≡ false
    fed_settled next is settled = settled_quits next settled ∙ is

pub not_quit : (b : Bool) → (b ≡ true → ⊥) → false ≡ b
not_quit true never = absurd (never refl)
not_quit false never = refl

-- ---- an answer

adding_not : (held : Held) (step : Step (List ℕ)) → quits_next (adding held step) ≡ false
adding_not held step = quits_if (is_full held.trace) _ _ refl refl

taking_not : (held : Held) (step : Option (Step (List ℕ))) → quits_next (taking held step) ≡ false
taking_not held None = refl
taking_not held (Some step) = adding_not held step

searched_not : (held : Held) (f : Found (List ℕ)) → quits_next (searched held f) ≡ false
searched_not held found.Nothing = refl
searched_not held (found.Fault fault) = refl
searched_not held (found.Step step) = adding_not held step

valued_not : (v : ValueAnswer) → quits_next (valued v) ≡ false
valued_not answer.NotInitialised = refl
valued_not (answer.Fault fault) = refl
valued_not (answer.Value value bounded) = refl

checked_not : (v : ValueAnswer) → quits_next (checked v) ≡ false
checked_not answer.NotInitialised = refl
checked_not (answer.Fault fault) = refl
checked_not (answer.Value value bounded) = refl

module _ (held : Held) where
  told_of : (x next : Next) → quits_next x ≡ false → Some x ≡ Some next → quits_next next ≡ false
  told_of x next p is = let same : next ≡ x = cc in ap quits_next same ∙ p

  named_not : (step : Step (List ℕ)) (ns : List ℕ) (next : Next) → named_step held step ns ≡ Some next → quits_next next ≡ false
  named_not step [] next is = cc
  named_not step (n ∷ ns) next is = told_of _ next (arriving_not held.subs.list _) is

  telling_not : (subs : List Sub) (arrival : Arrival) (told : List SubValue) (v : ValueAnswer) (next : Next) → telling subs arrival told v ≡ Some next → quits_next next ≡ false
  telling_not [] arrival told v next is = cc
  telling_not (sub ∷ []) arrival told v next is = told_of _ next refl is
  telling_not (sub ∷ other ∷ subs) arrival told v next is = told_of _ next refl is

  -- no answer makes a session quit
  pub fed_not : (stage : Stage) (a : Answer) (next : Next) → taken_on held stage a ≡ Some next → quits_next next ≡ false
  fed_not Listing (given.Steps lists) next is = told_of _ next (quits_if (any_step lists.lists) _ _ refl refl) is
  fed_not (Taking k) (given.Steps lists) next is = told_of _ next (taking_not held (step_of (packed_steps lists.lists) k)) is
  fed_not (NamingLists lists) (given.Names numbers) next is = told_of _ next refl is
  fed_not (NamingStep step) (given.Names numbers) next is = named_not step numbers next is
  fed_not (Evaluating key) (given.Value value) next is = told_of _ next (valued_not value) is
  fed_not Checking (given.Value value) next is = told_of _ next (checked_not value) is
  fed_not (Subscribing key) (given.Value value) next is = told_of _ next refl is
  fed_not (Finding op preds) (given.Find f) next is = told_of _ next (searched_not held f) is
  fed_not (Telling arrival told) (given.Value value) next is = telling_not (drop (length told) held.subs.list) arrival told value next is
  fed_not _ _ next is = cc

  -- memory as an answer leads nowhere
  pub memory_leads_nowhere : (stage : Stage) (next : Next) → taken_on held stage given.Memory ≡ Some next → ⊥
  memory_leads_nowhere Listing next is = cc
  memory_leads_nowhere (Taking k) next is = cc
  memory_leads_nowhere (NamingLists lists) next is = cc
  memory_leads_nowhere (NamingStep step) next is = cc
  memory_leads_nowhere (Evaluating key) next is = cc
  memory_leads_nowhere Checking next is = cc
  memory_leads_nowhere (Subscribing key) next is = cc
  memory_leads_nowhere (Finding op preds) next is = cc
  memory_leads_nowhere (Telling arrival told) next is = cc
