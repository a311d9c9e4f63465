-- The command table: what each command asks, in order, and how it ends. Errors are looked for in the order of the lines.
use Rattle.std.specs.Prelude.{ℕ, zero, suc, ◌+◌, Bool, true, false, not, ◌||◌, ◌&&◌, nat_le, nat_lt, List, [], ◌∷◌, ◌++◌, length, map, take, drop, Option, Some, None, Result, Ok, Err, slice_get, codes, if◌then◌else◌, is_some}
use Rattle.std.specs.List.{flat_map, find, list_any, position}
use Rattle.std.specs.Option.{option_map}
use Rattle.std.specs.Str.{bytes_eq}
use Rattle.rand_pcg.specs.Lcg.{Lcg}
use Rattle.random_walk.specs.Choices.{walk_of, chosen}
use Rattle.b_values.specs.declared.types.Face.{Face}
use Rattle.b_values.specs.declared.types.OpId.{OpId}
use Rattle.b_values.specs.declared.types.OpId.TheVariants as op
use Rattle.b_values.specs.declared.values.State.{State}
use Rattle.b_values.specs.Values.{same_state}
use Rattle.b_values.specs.declared.values.Value.{Value, out-Value}
use Rattle.b_values.specs.declared.values.Value.TheOpen.{Value-F}
use Rattle.engine_face.specs.Meaning.{Meaning, invariant_key}
use Rattle.engine_face.specs.Typing.{values_in}
use Rattle.engine_face.specs.declared.answers.Step.{Step}
use Rattle.engine_face.specs.declared.answers.StepList.{StepList}
use Rattle.engine_face.specs.declared.answers.ValueAnswer.{ValueAnswer}
use Rattle.engine_face.specs.declared.answers.ValueAnswer.TheVariants as answer
use Rattle.engine_face.specs.declared.answers.Found.{Found}
use Rattle.engine_face.specs.declared.answers.Found.TheVariants as found
use Rattle.engine_face.specs.declared.answers.Confirmed.{Confirmed}
use Rattle.engine_face.specs.declared.answers.Confirmed.TheVariants as confirmed
use Rattle.engine_face.specs.declared.keys.FormulaKey.{FormulaKey}
use Rattle.engine_face.specs.declared.keys.SavedStep.{SavedStep}
use Rattle.engine_face.specs.declared.keys.LoadKind.{LoadKind}
use Rattle.engine_face.specs.declared.keys.LoadKind.TheVariants as load
use Rattle.engine_face.specs.declared.keys.Scope.{Scope}
use Rattle.engine_face.specs.declared.keys.Scope.TheVariants as scope
use Rattle.session_words.specs.Replies.{states_in, dests}
use Rattle.session_words.specs.declared.commands.Command.{Command}
use Rattle.session_words.specs.declared.commands.Command.TheVariants as command
use Rattle.session_words.specs.declared.refusals.Refusal.{Refusal}
use Rattle.session_words.specs.declared.refusals.Refusal.TheVariants as refusal
use Rattle.session_words.specs.declared.replies.Reply.{Reply}
use Rattle.session_words.specs.declared.replies.Reply.TheVariants as reply
use Rattle.session_words.specs.declared.replies.SubValue.{SubValue}
use Rattle.session_words.specs.declared.replies.SubText.{SubText}
use Rattle.session_words.specs.declared.replies.ItemValue.{ItemValue}
use Rattle.formulas.specs.declared.subs.Sub.{Sub}
use Rattle.formulas.specs.Subscribing.{has_number, subscribed, unsubscribed}
use Rattle.formulas.specs.Subscribing.{is_full as subs_are_full}
use Rattle.trace_ops.specs.Traces.{back, forward, jump, added, is_full}
use Rattle.trace_ops.specs.declared.faults.MoveFault.{MoveFault}
use Rattle.trace_ops.specs.declared.faults.MoveFault.TheVariants as move
use Rattle.animator.specs.Sessions.{Session, Trace, Kept, state_in, all_taken, with_trace, with_subs, kept_of, keeping, was_shown, showing}
use Rattle.animator.specs.Plans.{Answered, Plan, Done, Lists, ValueIn, Find, Confirm, Number, Load, Store, Show}
use Rattle.animator.specs.Saved.{saved_steps}

-- the items and events of a document of visual elements
pub record Item : Type 0 where
  pub id : List ℕ
  pub attr : List ℕ
  pub key : FormulaKey

pub record Event : Type 0 where
  pub id : List ℕ
  pub op : OpId
  pub preds : List FormulaKey

-- What a session is given: the machine's meaning, its visual elements, and how saved steps stand in a document.
pub record Setting : Type 0 where
  pub meaning : Meaning
  pub items : List Item
  pub events : List Event
  pub written : List SavedStep → List ℕ
  pub migrated : List SavedStep → List ℕ
  pub entries : List ℕ → Option (List SavedStep)

-- ---- ends

-- an error leaves the session as it was
abbrev pub refused : Session → Refusal → Plan
refused session why = Done (record { session = session; reply = reply.Refused why })

-- from an ok reply on, the states that it shows are shown
abbrev pub ended : Session → Reply State → Plan
ended session reply = Done (record { session = showing session (states_in reply); reply = reply })

-- these states are shown, where there are any
abbrev pub show_each : List State → Plan → Plan
show_each [] plan = plan
show_each (state ∷ states) plan = Show (state ∷ states) plan

-- the values of the subscriptions in a state, one after another
abbrev pub told_subs : State → List Sub → List SubValue → (List SubValue → Plan) → Plan
told_subs state [] answers end = end answers
told_subs state (sub ∷ subs) answers end =
    ValueIn state sub.key (λ answer. told_subs state subs (answers ++ record { number = sub.number; answer = answer } ∷ []) end)

-- a command that ends in a new current state tells the subscriptions there
abbrev pub arrived : State → Session → (List SubValue → Reply State) → Plan
arrived origin session reply = told_subs (state_in origin session.trace) session.subs.list [] (λ answers. ended session (reply answers))

-- ---- formulas

-- the error of a formula that is refused
abbrev pub formula_error : LoadKind → Refusal
formula_error load.UnknownName = refusal.UnknownName
formula_error load.DuplicateName = refusal.WrongType
formula_error load.TypeClash = refusal.WrongType
formula_error load.AmbiguousType = refusal.WrongType
formula_error load.WrittenTwice = refusal.WrongType
formula_error load.NotWritable = refusal.WrongType
formula_error load.NotEnumerable = refusal.WrongType
formula_error load.NotSet = refusal.WrongType
formula_error kind = refusal.Syntax

-- what is done with a formula that is read, or its error
abbrev pub with_key : Session → Result FormulaKey LoadKind → (FormulaKey → Plan) → Plan
with_key session (Err kind) go = refused session (formula_error kind)
with_key session (Ok key) go = go key

abbrev pub evaluated : Session → ValueAnswer → Plan
evaluated session answer.NotInitialised = refused session refusal.NotInitialised
evaluated session (answer.Fault fault) = refused session (refusal.Fault fault)
evaluated session (answer.Value value bounded) = ended session (reply.Value value bounded)

-- whether a value is TRUE
abbrev pub is_true : {X : Type 0} → Value-F X → Bool
is_true (Value-F.Truth b) = b
is_true v = false

abbrev pub checked : Session → ValueAnswer → Plan
checked session answer.NotInitialised = refused session refusal.NotInitialised
checked session (answer.Fault fault) = refused session (refusal.Fault fault)
checked session (answer.Value value bounded) = ended session (reply.Invariant (is_true (out-Value value)) bounded)

-- at most 64 subscriptions, and each is told at once
abbrev pub subscribing : State → Session → FormulaKey → Plan
subscribing origin session key =
    if subs_are_full session.subs then refused session refusal.SubsFull
    else ValueIn (state_in origin session.trace) key (λ answer. ended (with_subs session (subscribed key session.subs)) (reply.Subscribed (record { number = session.subs.next; answer = answer })))

-- ---- steps

-- the steps of all lists
abbrev pub steps_in : StepList State → List (Step State)
steps_in lists = flat_map (λ list. list.steps) lists.lists

-- the step that has this number, from 1
abbrev pub step_of : {D : Type 0} → List (Step D) → ℕ → Option (Step D)
step_of steps zero = None
step_of steps (suc k) = slice_get steps k

-- a step is added, where the trace stays within 10,000 steps
abbrev pub adding : State → Session → Step State → Plan
adding origin session step =
    if is_full session.trace then refused session refusal.TraceFull
    else Show (step.dest ∷ []) (arrived origin (with_trace session (added step session.trace)) (reply.Added step))

abbrev pub taken : State → Session → Option (Step State) → Plan
taken origin session None = refused session refusal.NoStep
taken origin session (Some step) = adding origin session step

abbrev pub searched : State → Session → Found State → Plan
searched origin session found.Nothing = refused session refusal.NoStep
searched origin session (found.Fault fault) = refused session (refusal.Fault fault)
searched origin session (found.Step step) = adding origin session step

-- an operation by its name; the setup and the initialisation are operations of every machine
abbrev pub operation_of : Face → List ℕ → Option OpId
operation_of face name =
    if bytes_eq name (codes "$setup_constants") then Some op.Setup
    else if bytes_eq name (codes "$initialise_machine") then Some op.Init
    else option_map op.Op (position (λ f. bytes_eq name f.name) face.ops)

-- a search asks for a predicate; an expression is a fault of syntax
abbrev pub searching : State → Session → OpId → FormulaKey → Plan
searching origin session op key =
    if key.predicate then Find (state_in origin session.trace) op (key ∷ []) (searched origin session) else refused session refusal.Syntax

abbrev pub doing : Meaning → Session → Option (List ℕ) → Option OpId → Plan
doing m session predicate None = refused session refusal.UnknownName
doing m session None (Some op) = Find (state_in m.root session.trace) op [] (searched m.root session)
doing m session (Some text) (Some op) = with_key session (m.read_formula (scope.Op op) text) (searching m.root session op)

-- ---- moves

abbrev pub move_refusal : MoveFault → Refusal
move_refusal move.AtStart = refusal.AtStart
move_refusal move.AtEnd = refusal.AtEnd
move_refusal move.NoPosition = refusal.NoPosition

-- the session goes on with this trace
abbrev pub gone : State → Session → Trace → Plan
gone origin session trace = arrived origin (with_trace session trace) (reply.Moved (state_in origin trace))

abbrev pub moved : State → Session → Result Trace MoveFault → Plan
moved origin session (Err fault) = refused session (move_refusal fault)
moved origin session (Ok trace) = gone origin session trace

abbrev pub use_of : State → Session → Option Kept → Plan
use_of origin session None = refused session refusal.NoKept
use_of origin session (Some kept) = gone origin session kept.trace

-- a state with its values; the state before the first step has none
abbrev pub values_of : State → State → Option (List Value)
values_of origin state = if same_state origin state then None else Some (values_in state)

abbrev pub state_shown : State → State → Reply State
state_shown origin state = reply.State state (values_of origin state)

-- the state of a number is told where this session was shown it
abbrev pub shown_of : State → Session → Option State → Plan
shown_of origin session None = refused session refusal.NotShown
shown_of origin session (Some state) = if was_shown session state then ended session (state_shown origin state) else refused session refusal.NotShown

-- ---- saved traces

abbrev pub stored : Session → Bool → Plan
stored session true = ended session (reply.Saved (length session.trace.steps))
stored session false = refused session refusal.Document

-- the steps that were confirmed are the new trace
abbrev pub replayed : State → Session → List (Step State) → Plan
replayed origin session steps = show_each (dests steps) (arrived origin (with_trace session (all_taken steps)) (reply.Replayed steps))

-- an entry that no step confirms refuses them all
abbrev pub confirmed_by : Session → List (Step State) → (List (Step State) → Plan) → Confirmed State → Plan
confirmed_by session steps go confirmed.NotAStep = refused session (refusal.NotAStep (length steps + 1))
confirmed_by session steps go (confirmed.Step step) = go (steps ++ step ∷ [])

-- each entry is confirmed from the state that the steps before it reached
abbrev pub confirm_each : State → Session → List SavedStep → List (Step State) → Plan
confirm_each origin session [] steps = replayed origin session steps
confirm_each origin session (entry ∷ entries) steps =
    Confirm (state_in origin (all_taken steps)) entry (confirmed_by session steps (confirm_each origin session entries))

abbrev pub entered : State → Session → Option (List SavedStep) → Plan
entered origin session None = refused session refusal.TraceFile
entered origin session (Some entries) =
    if nat_le (length entries) 10000 then confirm_each origin session entries [] else refused session refusal.TraceFull

abbrev pub loaded : Setting → Session → Option (List ℕ) → Plan
loaded s session None = refused session refusal.Document
loaded s session (Some bytes) = entered s.meaning.root session (s.entries bytes)

-- the entries of a document are stored again under another name
abbrev pub stored_again : Session → ℕ → Bool → Plan
stored_again session count true = ended session (reply.Migrated count)
stored_again session count false = refused session refusal.Document

abbrev pub migrating : Setting → Session → List ℕ → Option (List SavedStep) → Plan
migrating s session to None = refused session refusal.TraceFile
migrating s session to (Some entries) = Store 2 to (s.migrated entries) (stored_again session (length entries))

abbrev pub migrated : Setting → Session → List ℕ → Option (List ℕ) → Plan
migrated s session to None = refused session refusal.Document
migrated s session to (Some bytes) = migrating s session to (s.entries bytes)

-- ---- random walks

-- the end of a walk: its steps were added one after another
abbrev pub walked : State → Session → Trace → List (Step State) → Plan
walked origin session trace steps = show_each (dests steps) (arrived origin (with_trace session trace) (reply.Walked steps))

-- a step is added, if there is one
abbrev pub with_step : Trace → Option (Step State) → Trace
with_step trace None = trace
with_step trace (Some step) = added step trace

-- where no step is listed the walk ends; else it goes on by the listed step at the place that is chosen
abbrev pub strayed : State → Session → Lcg → Trace → List (Step State) → List (Step State) → (Lcg → Trace → List (Step State) → Plan) → Plan
strayed origin session walk trace steps [] go = walked origin session trace steps
strayed origin session walk trace steps (first ∷ others) go =
    if is_full trace then refused session refusal.TraceFull
    else
    let choice : ℕ × Lcg = chosen (length (first ∷ others)) walk in
    go choice.1 (with_step trace (slice_get (first ∷ others) choice.0)) (steps ++ take 1 (drop choice.0 (first ∷ others)))

-- so many choices are left, behind these steps
abbrev pub wander : State → Session → ℕ → Lcg → Trace → List (Step State) → Plan
wander origin session zero walk trace steps = walked origin session trace steps
wander origin session (suc left) walk trace steps =
    Lists (state_in origin trace) (λ lists. strayed origin session walk trace steps (steps_in lists) (wander origin session left))

-- ---- visual elements

abbrev pub told_items : State → Session → List Item → List ItemValue → Plan
told_items state session [] answers = ended session (reply.VisbItems answers)
told_items state session (item ∷ items) answers =
    ValueIn state item.key (λ answer. told_items state session items (answers ++ record { id = item.id; attr = item.attr; answer = answer } ∷ []))

abbrev pub clicked : State → Session → Option Event → Plan
clicked origin session None = refused session refusal.NoEvent
clicked origin session (Some event) = Find (state_in origin session.trace) event.op event.preds (searched origin session)

-- ---- the table

-- the canonical text of a subscription
abbrev pub sub_text : Meaning → Sub → SubText
sub_text m sub = record { number = sub.number; text = m.canonical sub.key }

module _ (s : Setting) where
  -- the plan of a command
  abbrev pub plan : Session → Command → Plan
  plan session command.Blank = Done (record { session = session; reply = reply.Silent })
  plan session command.Info = ended session (reply.Info (state_in s.meaning.root session.trace) session.trace.position (length session.trace.steps))
  plan session command.Ops = Lists (state_in s.meaning.root session.trace) (λ lists. show_each (dests (steps_in lists)) (ended session (reply.Lists lists)))
  plan session (command.Step k) = Lists (state_in s.meaning.root session.trace) (λ lists. taken s.meaning.root session (step_of (steps_in lists) k))
  plan session (command.Do name predicate) = doing s.meaning session predicate (operation_of s.meaning.face name)
  plan session command.Back = moved s.meaning.root session (back session.trace)
  plan session command.Forward = moved s.meaning.root session (forward session.trace)
  plan session (command.Jump n) = moved s.meaning.root session (jump n session.trace)
  plan session command.Trace = ended session (reply.Trace session.trace.position session.trace.steps)
  plan session command.State = ended session (state_shown s.meaning.root (state_in s.meaning.root session.trace))
  plan session (command.Show n) = Number n (shown_of s.meaning.root session)
  plan session (command.Eval text) = with_key session (s.meaning.read_formula scope.State text) (λ key. ValueIn (state_in s.meaning.root session.trace) key (evaluated session))
  plan session (command.Sub text) = with_key session (s.meaning.read_formula scope.State text) (subscribing s.meaning.root session)
  plan session (command.Unsub n) = if list_any (has_number n) session.subs.list then ended (with_subs session (unsubscribed n session.subs)) reply.Done else refused session refusal.NoSub
  plan session command.Subs = ended session (reply.Subscriptions (map (sub_text s.meaning) session.subs.list))
  plan session command.Inv = ValueIn (state_in s.meaning.root session.trace) invariant_key (checked session)
  plan session (command.Keep name) =
      if is_some (kept_of session name) || nat_lt (length session.kept) 64 then ended (keeping session name) reply.Done else refused session refusal.KeptFull
  plan session (command.Use name) = use_of s.meaning.root session (kept_of session name)
  plan session (command.Save name) = Store 1 name (s.written (saved_steps s.meaning.face s.meaning.root session.trace.steps)) (stored session)
  plan session (command.Replay name) = Load 1 name (loaded s session)
  plan session (command.Migrate from to) = Load 1 from (migrated s session to)
  plan session command.Visb = told_items (state_in s.meaning.root session.trace) session s.items []
  plan session (command.Click id) = clicked s.meaning.root session (find (λ event. bytes_eq id event.id) s.events)
  plan session (command.Random n seed) = wander s.meaning.root session n (walk_of seed) session.trace []
  plan session command.Quit = ended session reply.Done

  -- the plan of a line, by the command that it stands for, if it stands for one
  abbrev pub plan_of : Session → Option Command → Plan
  plan_of session None = refused session refusal.NoCommand
  plan_of session (Some command) = plan session command
