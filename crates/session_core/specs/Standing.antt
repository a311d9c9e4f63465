-- A session stands at a plan: that is what is left of its command.
use Rattle.std.specs.Prelude.{◌≡◌, ◌<◌, ℕ, List, [], ◌∷◌, map, length, Option, Some, None, slice_get, if◌then◌else◌}
use Rattle.std.specs.List.{AllByRecursion}
use Rattle.b_values.specs.declared.values.State.{State}
use Rattle.engine_face.specs.Meaning.{Meaning}
use Rattle.engine_face.specs.Packing.{Unpacking, state_of, plain_lists, plain_found}
use Rattle.engine_face.specs.declared.keys.SavedStep.{SavedStep}
use Rattle.engine_face.specs.declared.answers.Step.{Step}
use Rattle.session_words.specs.Commands.{command_of}
use Rattle.session_words.specs.Replies.{reply_text, states_in, dests}
use Rattle.session_words.specs.declared.refusals.Refusal.TheVariants as refusal
use Rattle.session_words.specs.declared.replies.Numbered.{Numbered}
use Rattle.session_words.specs.declared.replies.Reply.TheVariants as reply
use Rattle.session_text.specs.Writing.{text_of_reply}
use Rattle.formulas.specs.Subscribing.{nothing_subscribed}
use Rattle.trace_ops.specs.Traces.{untouched}
use Rattle.animator.specs.Names.{place, IsNamed}
use Rattle.animator.specs.Sessions.{Session}
use Rattle.animator.specs.Plans.{Plan, Done, Lists, ValueIn, Find, Show, Answered}
use Rattle.animator.specs.Following.{Given, TheLists, TheValue, TheFound, Named, fed, first_shown}
use Rattle.animator.specs.Commands.{Setting, refused, plan_of}
use Rattle.session_core.specs.declared.core_of.At.{At}
use Rattle.session_core.specs.declared.core_of.At.TheVariants.{Idle, Asking, Replying, Quitting, Marked}
use Rattle.session_core.specs.declared.core_of.SessionCore.{SessionCore}
use Rattle.session_core.specs.declared.held.KeptTrace.{KeptTrace}
use Rattle.session_core.specs.declared.held.Held.{Held}
use Rattle.session_core.specs.declared.stages.Change.{Change}
use Rattle.session_core.specs.declared.stages.Change.TheVariants.{Add, Put, Keep}
use Rattle.session_core.specs.declared.stages.Opening.{Opening}
use Rattle.session_core.specs.declared.stages.Opening.TheVariants as opening
use Rattle.session_core.specs.declared.stages.Stage.{Stage}
use Rattle.session_core.specs.declared.stages.Stage.TheVariants.{Telling}
use Rattle.session_core.specs.declared.stages.Need.{Need}
use Rattle.session_core.specs.declared.stages.Need.TheVariants as needs
use Rattle.session_core.specs.declared.stages.Answer.{Answer}
use Rattle.session_core.specs.declared.stages.Answer.TheVariants as given
use Rattle.session_core.specs.Moving.{is_too_long}
use Rattle.session_core.specs.Told.{state_at, session_at, plan_at}

-- ---- the plan of a line

-- a machine without visual elements
abbrev pub bare : Meaning → Setting
bare m = record { meaning = m; items = []; events = []; written = λ saved. []; migrated = λ saved. []; entries = λ bytes. None }

-- a line that is too long is refused as such
abbrev pub line_plan : Meaning → Session → List ℕ → Plan
line_plan m session line = if is_too_long line then refused session refusal.LineTooLong else plan_of (bare m) session (command_of line)

-- ---- questions and answers

module _ (unpack : Unpacking) where
  -- the need is the question that comes first
  abbrev pub IsNeed : Plan → Need → Type 0
  IsNeed (Lists s k) (needs.Steps at) = state_of unpack at ≡ s
  IsNeed (ValueIn s f k) (needs.Value at key) = (state_of unpack at ≡ s) × (key ≡ f)
  IsNeed (Find s o ps k) (needs.Find at op preds) = (state_of unpack at ≡ s) × (op ≡ o) × (preds ≡ ps)
  IsNeed (Show states p) (needs.Names all) = map (state_of unpack) all ≡ states
  IsNeed _ _ = ⊥

  -- an answer, told of the states
  abbrev pub told_answer : Answer → Given
  told_answer (given.Steps lists) = TheLists (plain_lists unpack lists)
  told_answer (given.Value answer) = TheValue answer
  told_answer (given.Find found) = TheFound (plain_found unpack found)
  told_answer _ = Named

-- the answer is one to the question that comes first: numbers are as many as the states; memory answers any
abbrev pub IsAnswer : Plan → Answer → Type 0
IsAnswer (Lists s k) (given.Steps lists) = Unit {0}
IsAnswer (ValueIn s f k) (given.Value answer) = Unit {0}
IsAnswer (Find s o ps k) (given.Find found) = Unit {0}
IsAnswer (Show states p) (given.Names numbers) = length numbers ≡ length states
IsAnswer p given.Memory = Unit {0}
IsAnswer _ _ = ⊥

-- ---- numbers

-- the number is the state's place in the list
pub record IsPlaced (unpack : Unpacking) (names : List State) (d : Numbered) : Type 0 where
  pub named : IsNamed names (state_at unpack d)
  pub place : place names (state_at unpack d) ≡ d.number

module _ (unpack : Unpacking) (names : List State) where
  abbrev pub StepsPlaced : List (Step Numbered) → Type 0
  StepsPlaced = AllByRecursion (λ step. IsPlaced unpack names step.dest)

  pub record HeldPlaced (held : Held) : Type 0 where
    pub trace : StepsPlaced held.trace.steps
    pub kept : AllByRecursion (λ (one : KeptTrace). StepsPlaced one.trace.steps) held.kept

  abbrev pub ChangePlaced : Change → Type 0
  ChangePlaced (Add step) = IsPlaced unpack names step.dest
  ChangePlaced (Put trace) = StepsPlaced trace.steps
  ChangePlaced (Keep kept) = StepsPlaced kept.trace.steps
  ChangePlaced _ = Unit {0}

  abbrev pub OpeningPlaced : Opening → Type 0
  OpeningPlaced (opening.Added step) = IsPlaced unpack names step.dest
  OpeningPlaced (opening.Moved state) = IsPlaced unpack names state

  abbrev pub StagePlaced : Stage → Type 0
  StagePlaced (Telling arrival told) = ChangePlaced arrival.change × OpeningPlaced arrival.opening
  StagePlaced _ = Unit {0}

  -- the numbers of an answer are the places of the states that were shown
  abbrev pub ArePlaced : List State → List ℕ → Type 0
  ArePlaced [] [] = Unit {0}
  ArePlaced (state ∷ states) (n ∷ numbers) = (IsNamed names state × (place names state ≡ n)) × ArePlaced states numbers
  ArePlaced _ _ = ⊥

  abbrev pub AnswerPlaced : Plan → Answer → Type 0
  AnswerPlaced p (given.Names numbers) = ArePlaced (first_shown p) numbers
  AnswerPlaced p answer = Unit {0}

-- ---- standing

-- The reply is given: trace, kept traces and subscriptions are those of the session that the command leaves, and the text is its reply's under the list of states.
pub record IsEnd (m : Meaning) (unpack : Unpacking) (names : List State) (p : Plan) (held : Held) (text : List ℕ) : Type 0 where
  pub left : Answered
  pub ends : p ≡ Done left
  pub shown : List State
  pub session : left.session ≡ session_at unpack shown held
  pub writes : text ≡ reply_text m.face (place names) left.reply
  pub named : AllByRecursion (IsNamed names) (states_in left.reply)

-- The command goes on: its stage is the plan that is left, and its need is the question that comes first there.
pub record IsRest (m : Meaning) (unpack : Unpacking) (names shown : List State) (p : Plan) (held : Held) (stage : Stage) (need : Need) : Type 0 where
  pub plan : plan_at unpack m.root (session_at unpack shown held) stage ≡ p
  pub placed : StagePlaced unpack names stage
  pub asks : IsNeed unpack p need

-- what a need says
abbrev pub EndsBy : Meaning → Unpacking → List State → Plan → Held → Need → Type 0
EndsBy m unpack names p held (needs.Reply text) = IsEnd m unpack names p held text
EndsBy m unpack names p held _ = ⊥

abbrev pub QuitsBy : Meaning → Unpacking → List State → Plan → Held → Need → Type 0
QuitsBy m unpack names p held (needs.Quit text) = IsEnd m unpack names p held text
QuitsBy m unpack names p held _ = ⊥

-- where a session is that stands at the plan, with its states as shown
abbrev pub StandsBy : Meaning → Unpacking → List State → List State → Plan → Held → At → Need → Type 0
StandsBy m unpack names shown p held (Asking stage) need = IsRest m unpack names shown p held stage need
StandsBy m unpack names shown p held Replying need = EndsBy m unpack names p held need
StandsBy m unpack names shown p held Quitting need = QuitsBy m unpack names p held need
StandsBy m unpack names shown p held Idle need = ⊥
StandsBy m unpack names shown p held Marked need = ⊥

-- ---- one call

-- memory refused the command: the reply says so, and nothing is changed
pub record IsRefused (m : Meaning) (old new : Held) (need : Need) : Type 0 where
  pub same : new ≡ old
  pub told : need ≡ needs.Reply (text_of_reply m.face (reply.Refused refusal.Memory))

-- Where a call went: memory refused the command; or, whatever the list of states in which the numbers so far were places, the session stands at the plan.
abbrev pub Turns : Meaning → Unpacking → Numbered → Held → (List State → List State → Type 0) → (List State → Plan) → Held → At → Need → Type 0
Turns m unpack root old Ready plan new Marked need = IsRefused m old new need
Turns m unpack root old Ready plan new at need =
    (names shown : List State) → IsPlaced unpack names root → HeldPlaced unpack names old → Ready names shown
    → StandsBy m unpack names shown (plan shown) new at need × HeldPlaced unpack names new

-- a line begins a command
abbrev pub Begins : Meaning → Unpacking → SessionCore → List ℕ → SessionCore → Need → Type 0
Begins m unpack old line new need =
    Turns m unpack old.root old.held (λ names shown. Unit {0}) (λ shown. line_plan m (session_at unpack shown old.held) line) new.held new.at need

-- an answer goes on with one
abbrev pub GoesOn : Meaning → Unpacking → Numbered → Held → Stage → Answer → Held → At → Need → Type 0
GoesOn m unpack root old stage answer new at need =
    Turns m unpack root old
    (λ names shown. StagePlaced unpack names stage × AnswerPlaced unpack names (plan_at unpack m.root (session_at unpack shown old) stage) answer)
    (λ shown. fed (plan_at unpack m.root (session_at unpack shown old) stage) (told_answer unpack answer)) new at need

-- after a reply that was given the session is idle
abbrev pub Feeds : Meaning → Unpacking → Numbered → Held → At → Answer → Held → At → Need → Type 0
Feeds m unpack root old (Asking stage) answer new at need = GoesOn m unpack root old stage answer new at need
Feeds m unpack root old _ answer new at need = (new ≡ old) × (at ≡ Idle) × (need ≡ needs.Idle)

-- the answer is one to what the session needs
abbrev pub IsAsked : Meaning → Unpacking → Held → At → Answer → Type 0
IsAsked m unpack held (Asking stage) answer = (shown : List State) × IsAnswer (plan_at unpack m.root (session_at unpack shown held) stage) answer
IsAsked m unpack held Idle answer = ⊥
IsAsked m unpack held _ answer = answer ≡ given.Replied

-- a session that has done nothing
pub record IsFresh (m : Meaning) (unpack : Unpacking) (core : SessionCore) : Type 0 where
  pub root : unpack core.root.state ≡ Some m.root
  pub number : core.root.number ≡ 0
  pub held : (shown : List State) → session_at unpack shown core.held ≡ record { trace = untouched; kept = []; subs = nothing_subscribed; shown = shown }
  pub at : core.at ≡ Idle
