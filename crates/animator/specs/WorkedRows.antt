-- Sessions of a lift, worked by hand: the definitions give their replies.
use Rattle.std.specs.Prelude.{◌≡◌, ℕ, pos, ℤ, true, false, List, [], ◌∷◌, map, None, Err, slice_get, codes, refl}
use Rattle.std.specs.List.{repeat}
use Rattle.b_values.specs.Preferences.{default_prefs}
use Rattle.b_values.specs.declared.types.Face.{Face}
use Rattle.b_values.specs.declared.types.Ty.TheVariants as ty
use Rattle.b_values.specs.declared.types.OpId.{OpId}
use Rattle.b_values.specs.declared.types.OpId.TheVariants as op
use Rattle.b_values.specs.declared.values.State.{State}
use Rattle.b_values.specs.declared.values.State.TheVariants.{Root, Constants, Running}
use Rattle.b_values.specs.declared.values.Value.TheVariants.{Int}
use Rattle.engine_face.specs.Meaning.{Meaning}
use Rattle.engine_face.specs.declared.answers.Step.{Step}
use Rattle.engine_face.specs.declared.answers.OpList.{OpList}
use Rattle.engine_face.specs.declared.answers.StepList.{StepList}
use Rattle.engine_face.specs.declared.answers.ListEnd.TheVariants.{Complete}
use Rattle.engine_face.specs.declared.answers.ValueAnswer.TheVariants as answer
use Rattle.engine_face.specs.declared.answers.Found.TheVariants as found
use Rattle.engine_face.specs.declared.answers.Confirmed.TheVariants as confirmed
use Rattle.engine_face.specs.declared.keys.LoadKind.TheVariants as load
use Rattle.host_io.specs.Outside.{Absent}
use Rattle.animator.specs.Sessions.{fresh}
use Rattle.animator.specs.Commands.{Setting}
use Rattle.animator.specs.Counted.{counted_lines}
use Rattle.animator.specs.History.{Befell, Entry, history, asked_in}
use Rattle.animator.specs.Plans.{lists_asked}
use Rattle.session_words.specs.declared.refusals.Refusal.TheVariants as refusal
use Rattle.session_words.specs.declared.replies.Reply.{Reply}
use Rattle.session_words.specs.declared.replies.Reply.TheVariants as reply

-- a lift with two floors above the lowest
abbrev pub lift_face : Face
lift_face = record {
  name = codes "Lift";
  sets = [];
  constants = [];
  variables = record { name = codes "fl"; ty = ty.Int } ∷ [];
  ops = record { name = codes "up"; params = []; results = [] } ∷ record { name = codes "down"; params = []; results = [] } ∷ [];
  prefs = default_prefs;
}

abbrev pub floor : ℤ → State
floor n = Running [] (Int n ∷ [])

abbrev pub step_to : OpId → State → Step State
step_to op state = record { op = op; params = []; results = []; dest = state }

abbrev pub list_to : OpId → List (Step State) → OpList State
list_to op steps = record { op = op; steps = steps; end = Complete }

-- the lowest floor offers the way up alone, the others both
abbrev pub lift_lists : State → StepList State
lift_lists Root = record { lists = list_to op.Init (step_to op.Init (floor (pos 0)) ∷ []) ∷ [] }
lift_lists (Constants cs) = record { lists = [] }
lift_lists (Running cs vs) = record { lists = list_to (op.Op 0) (step_to (op.Op 0) (floor (pos 1)) ∷ []) ∷ list_to (op.Op 1) [] ∷ [] }

abbrev pub lift : Setting
lift = record {
  meaning = record {
    face = lift_face;
    root = Root;
    expand = lift_lists;
    value = λ state key. answer.NotInitialised;
    find = λ state op preds. found.Nothing;
    confirm = λ state saved. confirmed.NotAStep;
    read_formula = λ scope text. Err load.NotASentence;
    canonical = λ key. [];
  };
  items = [];
  events = [];
  written = λ steps. [];
  migrated = λ steps. [];
  entries = λ bytes. None;
}

abbrev pub unmarked : Befell
unmarked = record { marked = false; failed = 0; gave = None }

abbrev pub lift_names : List State
lift_names = Root ∷ floor (pos 0) ∷ floor (pos 1) ∷ []

-- a session of the lift over so many lines of these bytes
abbrev pub lift_history : ℕ → List ℕ → List Entry
lift_history lines bytes = history lift (slice_get lift_names) (fresh Root) (λ name. Absent) (repeat lines (unmarked ∷ [])) (counted_lines bytes)

abbrev pub replies : List Entry → List (Reply State)
replies = map (λ e. e.reply)

pub empty_session : lift_history 0 [] ≡ []
empty_session = refl

pub moves_at_root : replies (lift_history 6 (codes "back\nforward\njump 1\njump 0\ntrace\r\ninfo"))
    ≡ reply.Refused refusal.AtStart ∷ reply.Refused refusal.AtEnd ∷ reply.Refused refusal.NoPosition ∷ reply.Moved Root [] ∷ reply.Trace 0 [] ∷ reply.Info Root 0 0 ∷ []
moves_at_root = refl

abbrev pub first_step : Step State
first_step = step_to op.Init (floor (pos 0))

pub steps_and_back : replies (lift_history 5 (codes "ops\nstep 1\n// a comment\nback\nstep 2\nops\n"))
    ≡ reply.Lists (lift_lists Root) ∷ reply.Added first_step [] ∷ reply.Silent ∷ reply.Moved Root [] ∷ reply.Refused refusal.NoStep ∷ []
steps_and_back = refl

-- what is asked on the way: for `ops`, and for the step before and after `back`
pub lists_on_the_way : lists_asked (asked_in (lift_history 5 (codes "ops\nstep 1\n// a comment\nback\nstep 2\nops\n"))) ≡ Root ∷ Root ∷ Root ∷ []
lists_on_the_way = refl

-- the line is refused by memory: the trace stays
pub refused_by_memory : replies (history lift (slice_get lift_names) (fresh Root) (λ name. Absent)
    (record { marked = true; failed = 0; gave = None } ∷ unmarked ∷ []) (counted_lines (codes "step 1\nback\n")))
    ≡ reply.Refused refusal.Memory ∷ reply.Refused refusal.AtStart ∷ []
refused_by_memory = refl

-- nothing is answered behind `quit`
pub nothing_behind_quit : replies (lift_history 3 (codes "quit\nback\nback\n")) ≡ reply.Done ∷ []
nothing_behind_quit = refl
