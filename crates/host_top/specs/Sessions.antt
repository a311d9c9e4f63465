-- A running session: the session that it stands for, and the numbers of its states.
use Rattle.std.specs.Prelude.{◌≡◌, ℕ, zero, suc, ◌≤◌, List, map, length, Option, None, slice_get}
use Rattle.std.specs.List.{AllByRecursion}
use Rattle.b_values.specs.declared.values.State.{State}
use Rattle.animator.specs.declared.model.Session.{Session}
use Rattle.animator.specs.Names.{place, IsNamed, BeginsWithRoot}
use Rattle.host_top.specs.declared.session.ShownStep.{ShownStep}
use Rattle.host_top.specs.declared.session.Running.{Running}

-- the session without the numbers
abbrev pub session_of : Running → Session
session_of running = record { steps = map (λ shown. shown.step) running.steps.items; position = running.position }

-- the step that leads to a position
abbrev pub shown_before : List ShownStep → ℕ → Option ShownStep
shown_before steps zero = None
shown_before steps (suc n) = slice_get steps n

-- the step keeps the number of its state
pub record HasNumber (names : List State) (shown : ShownStep) : Type 0 where
  pub named : IsNamed names shown.step.dest
  pub number : shown.number ≡ place names shown.step.dest

-- each step keeps the number of its state, and root has number 0
pub record IsNumbered (names : List State) (running : Running) : Type 0 where
  pub first : BeginsWithRoot names
  pub within : running.position ≤ length running.steps.items
  pub numbers : AllByRecursion (HasNumber names) running.steps.items
