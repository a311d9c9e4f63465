-- Which state a packed one stands for, and answers read as plain ones.
use Rattle.std.specs.Prelude.{◌≡◌, ℕ, List, map, Option, Some, None, IsSome}
use Rattle.b_values.specs.declared.values.State.{State}
use Rattle.b_values.specs.declared.values.State.TheVariants.{Root}
use Rattle.engine_face.specs.declared.answers.Step.{Step}
use Rattle.engine_face.specs.declared.answers.OpList.{OpList}
use Rattle.engine_face.specs.declared.answers.StepList.{StepList}
use Rattle.engine_face.specs.declared.answers.Found.{Found}
use Rattle.engine_face.specs.declared.answers.Found.TheVariants as found
use Rattle.engine_face.specs.declared.answers.Confirmed.{Confirmed}
use Rattle.engine_face.specs.declared.answers.Confirmed.TheVariants as confirmed

-- the state that bytes stand for, if they stand for one
abbrev pub Unpacking : Type 0
Unpacking = List ℕ → Option State

-- the bytes stand for a state
abbrev pub IsPacked : Unpacking → List ℕ → Type 0
IsPacked unpack bytes = IsSome (unpack bytes)

-- a state is spelled in one way alone
abbrev pub IsOneSpelling : Unpacking → Type 0
IsOneSpelling unpack = (p q : List ℕ) (s : State) → unpack p ≡ Some s → unpack q ≡ Some s → p ≡ q

abbrev pub state_or_root : Option State → State
state_or_root None = Root
state_or_root (Some s) = s

-- the state that packed bytes stand for; of other bytes root
abbrev pub state_of : Unpacking → List ℕ → State
state_of unpack bytes = state_or_root (unpack bytes)

-- answers with other destinations in the places of their own
module _ {D E : Type 0} (f : D → E) where
  abbrev pub step_to : Step D → Step E
  step_to step = record { op = step.op; params = step.params; results = step.results; dest = f step.dest }

  abbrev pub list_to : OpList D → OpList E
  list_to list = record { op = list.op; steps = map step_to list.steps; end = list.end }

  abbrev pub lists_to : StepList D → StepList E
  lists_to list = record { lists = map list_to list.lists }

  abbrev pub found_to : Found D → Found E
  found_to (found.Step step) = found.Step (step_to step)
  found_to found.Nothing = found.Nothing
  found_to (found.Fault fault) = found.Fault fault

  abbrev pub confirmed_to : Confirmed D → Confirmed E
  confirmed_to (confirmed.Step step) = confirmed.Step (step_to step)
  confirmed_to confirmed.NotAStep = confirmed.NotAStep

-- answers at packed states, told of the states
abbrev pub plain_step : Unpacking → Step (List ℕ) → Step State
plain_step unpack = step_to (state_of unpack)

abbrev pub plain_lists : Unpacking → StepList (List ℕ) → StepList State
plain_lists unpack = lists_to (state_of unpack)

abbrev pub plain_found : Unpacking → Found (List ℕ) → Found State
plain_found unpack = found_to (state_of unpack)

abbrev pub plain_confirmed : Unpacking → Confirmed (List ℕ) → Confirmed State
plain_confirmed unpack = confirmed_to (state_of unpack)
