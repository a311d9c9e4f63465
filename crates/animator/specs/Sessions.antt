-- A session value of a private animator: what a session has, and nothing of how the host keeps it.
use Rattle.std.specs.Prelude.{ℕ, Bool, List, [], ◌∷◌, ◌++◌, length, Option, Some, None, if◌then◌else◌}
use Rattle.std.specs.List.{list_any, find}
use Rattle.std.specs.Str.{bytes_eq}
use Rattle.b_values.specs.declared.values.State.{State}
use Rattle.b_values.specs.Values.{same_state}
use Rattle.engine_face.specs.declared.answers.Step.{Step}
use Rattle.formulas.specs.Subscriptions.{Subscriptions}
use Rattle.formulas.specs.Subscribing.{nothing_subscribed}
use Rattle.trace_ops.specs.Histories.{History}
use Rattle.trace_ops.specs.Traces.{untouched, current}

-- steps of a machine one after another, and how many of them were taken
abbrev pub Trace : Type 0
Trace = History (Step State)

-- a trace that was kept under a name
pub record Kept : Type 0 where
  pub name : List ℕ
  pub trace : Trace

pub record Session : Type 0 where
  pub trace : Trace
  pub kept : List Kept
  pub subs : Subscriptions
  -- the states that replies showed
  pub shown : List State

-- a session that has done nothing; the state before the first step is shown from the start
abbrev pub fresh : State → Session
fresh origin = record { trace = untouched; kept = []; subs = nothing_subscribed; shown = origin ∷ [] }

-- the state that a step leads to; without a step, the state before the first
abbrev pub state_after : State → Option (Step State) → State
state_after origin None = origin
state_after origin (Some step) = step.dest

-- the state in which a trace stands
abbrev pub state_in : State → Trace → State
state_in origin trace = state_after origin (current trace)

-- these steps, all taken
abbrev pub all_taken : List (Step State) → Trace
all_taken steps = record { steps = steps; position = length steps }

abbrev pub with_trace : Session → Trace → Session
with_trace session trace = record { trace = trace; kept = session.kept; subs = session.subs; shown = session.shown }

abbrev pub with_subs : Session → Subscriptions → Session
with_subs session subs = record { trace = session.trace; kept = session.kept; subs = subs; shown = session.shown }

-- the trace that is kept under a name
abbrev pub kept_of : Session → List ℕ → Option Kept
kept_of session name = find (λ kept. bytes_eq name kept.name) session.kept

-- a trace takes the place of the one that was kept under its name, or stands behind all
abbrev pub with_kept : Kept → List Kept → List Kept
with_kept new [] = new ∷ []
with_kept new (kept ∷ others) = if bytes_eq new.name kept.name then new ∷ others else kept ∷ with_kept new others

-- the session once its trace is kept under the name
abbrev pub keeping : Session → List ℕ → Session
keeping session name = record {
  trace = session.trace;
  kept = with_kept (record { name = name; trace = session.trace }) session.kept;
  subs = session.subs;
  shown = session.shown;
}

abbrev pub was_shown : Session → State → Bool
was_shown session state = list_any (same_state state) session.shown

-- the same session once these states were shown
abbrev pub showing : Session → List State → Session
showing session states = record { trace = session.trace; kept = session.kept; subs = session.subs; shown = session.shown ++ states }
