-- A reply told of other states.
use Rattle.std.specs.Prelude.{List, map}
use Rattle.engine_face.specs.declared.answers.Step.{Step}
use Rattle.engine_face.specs.declared.answers.OpList.{OpList}
use Rattle.session_words.specs.declared.replies.Reply.{Reply}
use Rattle.session_words.specs.declared.replies.Reply.TheVariants.{Silent, Done, Info, Lists, Added, Moved, Trace, State, Value as Valued, Subscribed, Subscriptions, Invariant, Saved, Migrated, Replayed, VisbItems, Walked, Refused}

module _ {D E : Type 0} (told : D → E) where
  abbrev pub retold_step : Step D → Step E
  retold_step step = record { op = step.op; params = step.params; results = step.results; dest = told step.dest }

  abbrev pub retold_steps : List (Step D) → List (Step E)
  retold_steps steps = map retold_step steps

  abbrev pub retold_list : OpList D → OpList E
  retold_list list = record { op = list.op; steps = retold_steps list.steps; end = list.end }

  abbrev pub retold_lists : List (OpList D) → List (OpList E)
  retold_lists lists = map retold_list lists

  -- each state of the reply is told as another
  abbrev pub retold : Reply D → Reply E
  retold Silent = Silent
  retold Done = Done
  retold (Info state position len) = Info (told state) position len
  retold (Lists list) = Lists (record { lists = retold_lists list.lists })
  retold (Added step subs) = Added (retold_step step) subs
  retold (Moved state subs) = Moved (told state) subs
  retold (Trace position steps) = Trace position (retold_steps steps)
  retold (State state values) = State (told state) values
  retold (Valued v bounded) = Valued v bounded
  retold (Subscribed sub) = Subscribed sub
  retold (Subscriptions subs) = Subscriptions subs
  retold (Invariant holds bounded) = Invariant holds bounded
  retold (Saved len) = Saved len
  retold (Migrated len) = Migrated len
  retold (Replayed steps subs) = Replayed (retold_steps steps) subs
  retold (VisbItems items) = VisbItems items
  retold (Walked steps subs) = Walked (retold_steps steps) subs
  retold (Refused refusal) = Refused refusal
