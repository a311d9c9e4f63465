-- What a session holds, told of the states themselves.
use Rattle.std.specs.Prelude.{ℕ, List, [], ◌∷◌, length, map, drop}
use Rattle.b_values.specs.declared.values.State.{State}
use Rattle.engine_face.specs.Packing.{Unpacking, state_of, step_to, plain_lists, plain_step}
use Rattle.engine_face.specs.Meaning.{invariant_key}
use Rattle.engine_face.specs.declared.answers.Step.{Step}
use Rattle.session_words.specs.Replies.{dests}
use Rattle.session_words.specs.Retelling.{retold}
use Rattle.session_words.specs.declared.replies.Numbered.{Numbered}
use Rattle.session_words.specs.declared.replies.Reply.{Reply}
use Rattle.session_words.specs.declared.replies.Reply.TheVariants as reply
use Rattle.session_words.specs.declared.replies.SubValue.{SubValue}
use Rattle.formulas.specs.Subscribing.{subscribed, unsubscribed}
use Rattle.trace_ops.specs.Histories.{History}
use Rattle.trace_ops.specs.Traces.{placed, added, step_before}
use Rattle.animator.specs.Sessions.{Session, Trace, Kept, state_in, state_after, with_trace, with_subs, with_kept}
use Rattle.animator.specs.Plans.{Plan, Done, Lists, ValueIn, Find, Show}
use Rattle.animator.specs.Commands.{refused, ended, show_each, told_subs, arrived, evaluated, checked, steps_in, step_of, taken, searched}
use Rattle.session_core.specs.declared.held.KeptTrace.{KeptTrace}
use Rattle.session_core.specs.declared.held.Held.{Held}
use Rattle.session_core.specs.declared.stages.Change.{Change}
use Rattle.session_core.specs.declared.stages.Change.TheVariants.{Stay, Go, Add, Put, Subscribe, Unsubscribe, Keep}
use Rattle.session_core.specs.declared.stages.Opening.{Opening}
use Rattle.session_core.specs.declared.stages.Opening.TheVariants as opening
use Rattle.session_core.specs.declared.stages.Stage.{Stage}
use Rattle.session_core.specs.declared.stages.Stage.TheVariants.{Listing, Taking, NamingLists, NamingStep, Evaluating, Checking, Subscribing, Finding, Telling}
use Rattle.session_core.specs.declared.stages.Next.{Next}
use Rattle.session_core.specs.declared.stages.Next.TheVariants.{Goes, Ends, Refuses, Silent, Moves, Quits}

module _ (unpack : Unpacking) where
  -- the state that a numbered one is
  abbrev pub state_at : Numbered → State
  state_at d = state_of unpack d.state

  abbrev pub step_at : Step Numbered → Step State
  step_at = step_to state_at

  abbrev pub trace_at : History (Step Numbered) → Trace
  trace_at trace = record { steps = map step_at trace.steps; position = trace.position }

  abbrev pub kept_at : KeptTrace → Kept
  kept_at kept = record { name = kept.name; trace = trace_at kept.trace }

  -- the session value, where these states were shown
  abbrev pub session_at : List State → Held → Session
  session_at shown held = record { trace = trace_at held.trace; kept = map kept_at held.kept; subs = held.subs; shown = shown }

  abbrev pub reply_at : Reply Numbered → Reply State
  reply_at = retold state_at

  -- a reply that the values of subscriptions follow
  abbrev pub opening_at : Opening → List SubValue → Reply State
  opening_at (opening.Added step) subs = reply.Added (step_at step) subs
  opening_at (opening.Moved state) subs = reply.Moved (state_at state) subs

  -- a session after a change
  abbrev pub changed : Session → Change → Session
  changed session Stay = session
  changed session (Go n) = with_trace session (placed n session.trace)
  changed session (Add step) = with_trace session (added (step_at step) session.trace)
  changed session (Put trace) = with_trace session (trace_at trace)
  changed session (Subscribe key) = with_subs session (subscribed key session.subs)
  changed session (Unsubscribe n) = with_subs session (unsubscribed n session.subs)
  changed session (Keep kept) = record { trace = session.trace; kept = with_kept (kept_at kept) session.kept; subs = session.subs; shown = session.shown }

  module _ (origin : State) (session : Session) where
    -- the plan that is left of a command in progress
    abbrev pub plan_at : Stage → Plan
    plan_at Listing = Lists (state_in origin session.trace) (λ lists. show_each (dests (steps_in lists)) (ended session (reply.Lists lists)))
    plan_at (Taking k) = Lists (state_in origin session.trace) (λ lists. taken origin session (step_of (steps_in lists) k))
    plan_at (NamingLists lists) = show_each (dests (steps_in (plain_lists unpack lists))) (ended session (reply.Lists (plain_lists unpack lists)))
    plan_at (NamingStep step) =
        Show (state_of unpack step.dest ∷ []) (arrived origin (with_trace session (added (plain_step unpack step) session.trace)) (reply.Added (plain_step unpack step)))
    plan_at (Evaluating key) = ValueIn (state_in origin session.trace) key (evaluated session)
    plan_at Checking = ValueIn (state_in origin session.trace) invariant_key (checked session)
    plan_at (Subscribing key) =
        ValueIn (state_in origin session.trace) key (λ answer. ended (with_subs session (subscribed key session.subs)) (reply.Subscribed (record { number = session.subs.next; answer = answer })))
    plan_at (Finding op preds) = Find (state_in origin session.trace) op preds (searched origin session)
    plan_at (Telling arrival told) =
        told_subs (state_at arrival.at) (drop (length told) session.subs.list) told (λ answers. ended (changed session arrival.change) (opening_at arrival.opening answers))

    -- the plan that is left at what comes next
    abbrev pub next_plan : Next → Plan
    next_plan (Goes stage) = plan_at stage
    next_plan (Ends change reply) = ended (changed session change) (reply_at reply)
    next_plan (Refuses why) = refused session why
    next_plan Silent = Done (record { session = session; reply = reply.Silent })
    next_plan (Moves n number) =
        ended (with_trace session (placed n session.trace)) (reply.Moved (state_after origin (step_before session.trace.steps n)) [])
    next_plan Quits = ended session reply.Done
