-- How a session goes on, told of what it holds: what a command asks first, and where an answer leads. The laws in `Standing` tie it to the
-- command table.
use Rattle.std.specs.Prelude.{ℕ, zero, suc, ◌+◌, ◌-◌, Bool, true, false, ◌||◌, ◌==◌, nat_lt, List, [], ◌∷◌, ◌++◌, length, map, take, drop, Option, Some, None, Result, Ok, Err, slice_get, if◌then◌else◌, is_some}
use Rattle.std.specs.List.{flat_map, find, list_any}
use Rattle.std.specs.Option.{option_map, option_map_or}
use Rattle.std.specs.Str.{bytes_eq}
use Rattle.b_values.specs.declared.types.OpId.{OpId}
use Rattle.b_values.specs.declared.values.Value.{Value, out-Value}
use Rattle.engine_face.specs.Keys.{same_bytes}
use Rattle.engine_face.specs.Meaning.{Meaning, invariant_key}
use Rattle.engine_face.specs.Packing.{Unpacking, state_of}
use Rattle.engine_face.specs.Typing.{values_in}
use Rattle.engine_face.specs.declared.answers.Step.{Step}
use Rattle.engine_face.specs.declared.answers.OpList.{OpList}
use Rattle.engine_face.specs.declared.answers.StepList.{StepList}
use Rattle.engine_face.specs.declared.answers.ValueAnswer.{ValueAnswer}
use Rattle.engine_face.specs.declared.answers.ValueAnswer.TheVariants as answer
use Rattle.engine_face.specs.declared.answers.Found.{Found}
use Rattle.engine_face.specs.declared.answers.Found.TheVariants as found
use Rattle.engine_face.specs.declared.keys.FormulaKey.{FormulaKey}
use Rattle.engine_face.specs.declared.keys.LoadKind.{LoadKind}
use Rattle.engine_face.specs.declared.keys.Scope.TheVariants as scope
use Rattle.session_words.specs.Commands.{command_of}
use Rattle.session_words.specs.Replies.{dests}
use Rattle.session_words.specs.declared.commands.Command.{Command}
use Rattle.session_words.specs.declared.commands.Command.TheVariants as command
use Rattle.session_words.specs.declared.refusals.Refusal.{Refusal}
use Rattle.session_words.specs.declared.refusals.Refusal.TheVariants as refusal
use Rattle.session_words.specs.declared.replies.Numbered.{Numbered}
use Rattle.session_words.specs.declared.replies.Reply.{Reply}
use Rattle.session_words.specs.declared.replies.Reply.TheVariants as reply
use Rattle.session_words.specs.declared.replies.SubValue.{SubValue}
use Rattle.formulas.specs.declared.subs.Sub.{Sub}
use Rattle.formulas.specs.Subscriptions.{Subscriptions}
use Rattle.formulas.specs.Subscribing.{has_number, subscribed, unsubscribed}
use Rattle.formulas.specs.Subscribing.{is_full as subs_are_full}
use Rattle.trace_ops.specs.Histories.{History}
use Rattle.trace_ops.specs.Traces.{placed, step_before, current, back, forward, jump, added, is_full}
use Rattle.trace_ops.specs.declared.faults.MoveFault.{MoveFault}
use Rattle.animator.specs.Commands.{formula_error, is_true, step_of, steps_in, operation_of, move_refusal, sub_text}
use Rattle.session_core.specs.declared.held.KeptTrace.{KeptTrace}
use Rattle.session_core.specs.declared.held.Held.{Held}
use Rattle.session_core.specs.declared.stages.Change.{Change}
use Rattle.session_core.specs.declared.stages.Change.TheVariants.{Stay, Go, Add, Put, Subscribe, Unsubscribe, Keep}
use Rattle.session_core.specs.declared.stages.Opening.{Opening}
use Rattle.session_core.specs.declared.stages.Opening.TheVariants as opening
use Rattle.session_core.specs.declared.stages.Arrival.{Arrival}
use Rattle.session_core.specs.declared.stages.Stage.{Stage}
use Rattle.session_core.specs.declared.stages.Stage.TheVariants.{Listing, Taking, NamingLists, NamingStep, Evaluating, Checking, Subscribing, Finding, Telling}
use Rattle.session_core.specs.declared.stages.Next.{Next}
use Rattle.session_core.specs.declared.stages.Next.TheVariants.{Goes, Ends, Refuses, Silent, Moves, Quits}
use Rattle.session_core.specs.declared.stages.Need.{Need}
use Rattle.session_core.specs.declared.stages.Need.TheVariants as needs
use Rattle.session_core.specs.declared.stages.Answer.{Answer}
use Rattle.session_core.specs.declared.stages.Answer.TheVariants as given

-- ---- states

-- the state that a step leads to; without a step, the state before the first
abbrev pub numbered_after : Numbered → Option (Step Numbered) → Numbered
numbered_after root None = root
numbered_after root (Some step) = step.dest

-- the state behind so many steps
abbrev pub numbered_before : Numbered → List (Step Numbered) → ℕ → Numbered
numbered_before root steps n = numbered_after root (step_before steps n)

-- the state in which a trace stands
abbrev pub numbered_in : Numbered → History (Step Numbered) → Numbered
numbered_in root trace = numbered_after root (current trace)

-- a step whose state has this number
abbrev pub numbered_step : Step (List ℕ) → ℕ → Step Numbered
numbered_step step n = record { op = step.op; params = step.params; results = step.results; dest = record { state = step.dest; number = n } }

-- steps with the numbers of their states, one for each
abbrev pub numbered_steps : List (Step (List ℕ)) → List ℕ → List (Step Numbered)
numbered_steps [] numbers = []
numbered_steps (step ∷ steps) [] = []
numbered_steps (step ∷ steps) (n ∷ numbers) = numbered_step step n ∷ numbered_steps steps numbers

-- the same for lists, one after another
abbrev pub numbered_lists : List (OpList (List ℕ)) → List ℕ → List (OpList Numbered)
numbered_lists [] numbers = []
numbered_lists (list ∷ lists) numbers =
    record { op = list.op; steps = numbered_steps list.steps (take (length list.steps) numbers); end = list.end } ∷ numbered_lists lists (drop (length list.steps) numbers)

-- the steps of lists of packed states, and the states that they lead to
abbrev pub packed_steps : List (OpList (List ℕ)) → List (Step (List ℕ))
packed_steps = flat_map (λ list. list.steps)

-- ---- ends

abbrev pub opened : Opening → List SubValue → Reply Numbered
opened (opening.Added step) subs = reply.Added step subs
opened (opening.Moved state) subs = reply.Moved state subs

-- at a new current state the subscriptions are asked, where there are any
abbrev pub arriving : List Sub → Arrival → Next
arriving [] arrival = Ends arrival.change (opened arrival.opening [])
arriving (sub ∷ subs) arrival = Goes (Telling arrival [])

-- a move
abbrev pub going : List Sub → ℕ → Numbered → Next
going [] n at = Moves n at.number
going (sub ∷ subs) n at = Goes (Telling (record { at = at; change = Go n; opening = opening.Moved at }) [])

abbrev pub moving : Numbered → Held → Result (History (Step Numbered)) MoveFault → Next
moving root held (Err fault) = Refuses (move_refusal fault)
moving root held (Ok trace) = going held.subs.list trace.position (numbered_before root held.trace.steps trace.position)

-- ---- what a command asks first

abbrev pub using_kept : Numbered → Held → Option KeptTrace → Next
using_kept root held None = Refuses refusal.NoKept
using_kept root held (Some kept) =
    arriving held.subs.list (record { at = numbered_in root kept.trace; change = Put kept.trace; opening = opening.Moved (numbered_in root kept.trace) })

abbrev pub kept_under : List ℕ → Held → Option KeptTrace
kept_under name held = find (λ kept. bytes_eq name kept.name) held.kept

abbrev pub keeping_under : List ℕ → Held → Next
keeping_under name held =
    if is_some (kept_under name held) || nat_lt (length held.kept) 64 then Ends (Keep (record { name = name; trace = held.trace })) reply.Done
    else Refuses refusal.KeptFull

abbrev pub unsubscribing : ℕ → Held → Next
unsubscribing n held = if list_any (has_number n) held.subs.list then Ends (Unsubscribe n) reply.Done else Refuses refusal.NoSub

-- the values of a state; the state before the first step has none
abbrev pub values_told : Unpacking → Numbered → Numbered → Option (List Value)
values_told unpack root at = if same_bytes root.state at.state then None else Some (values_in (state_of unpack at.state))

abbrev pub evaluating : Result FormulaKey LoadKind → Next
evaluating (Err kind) = Refuses (formula_error kind)
evaluating (Ok key) = Goes (Evaluating key)

abbrev pub subscribing_to : Held → FormulaKey → Next
subscribing_to held key = if subs_are_full held.subs then Refuses refusal.SubsFull else Goes (Subscribing key)

abbrev pub subscribing : Held → Result FormulaKey LoadKind → Next
subscribing held (Err kind) = Refuses (formula_error kind)
subscribing held (Ok key) = subscribing_to held key

abbrev pub searching_by : OpId → FormulaKey → Next
searching_by op key = if key.predicate then Goes (Finding op (key ∷ [])) else Refuses refusal.Syntax

abbrev pub searching : OpId → Result FormulaKey LoadKind → Next
searching op (Err kind) = Refuses (formula_error kind)
searching op (Ok key) = searching_by op key

abbrev pub doing : Meaning → Option (List ℕ) → Option OpId → Next
doing m predicate None = Refuses refusal.UnknownName
doing m None (Some op) = Goes (Finding op [])
doing m (Some text) (Some op) = searching op (m.read_formula (scope.Op op) text)

abbrev pub started_info : Numbered → Held → Next
started_info root held = Ends Stay (reply.Info (numbered_in root held.trace) held.trace.position (length held.trace.steps))

abbrev pub started_trace : Held → Next
started_trace held = Ends Stay (reply.Trace held.trace.position held.trace.steps)

abbrev pub started_state : Unpacking → Numbered → Held → Next
started_state unpack root held = Ends Stay (reply.State (numbered_in root held.trace) (values_told unpack root (numbered_in root held.trace)))

abbrev pub started_subs : Meaning → Held → Next
started_subs m held = Ends Stay (reply.Subscriptions (map (sub_text m) held.subs.list))

-- the commands that are built
abbrev pub is_built : Command → Bool
is_built (command.Show n) = false
is_built (command.Save name) = false
is_built (command.Replay name) = false
is_built (command.Migrate from to) = false
is_built (command.Random n seed) = false
is_built command = true

module _ (m : Meaning) (unpack : Unpacking) (root : Numbered) (held : Held) where
  abbrev pub started : Command → Next
  started command.Blank = Silent
  started command.Info = started_info root held
  started command.Ops = Goes Listing
  started (command.Step k) = Goes (Taking k)
  started (command.Do name predicate) = doing m predicate (operation_of m.face name)
  started command.Back = moving root held (back held.trace)
  started command.Forward = moving root held (forward held.trace)
  started (command.Jump n) = moving root held (jump n held.trace)
  started command.Trace = started_trace held
  started command.State = started_state unpack root held
  started (command.Eval text) = evaluating (m.read_formula scope.State text)
  started (command.Sub text) = subscribing held (m.read_formula scope.State text)
  started (command.Unsub n) = unsubscribing n held
  started command.Subs = started_subs m held
  started command.Inv = Goes Checking
  started (command.Keep name) = keeping_under name held
  started (command.Use name) = using_kept root held (kept_under name held)
  started command.Visb = Ends Stay (reply.VisbItems [])
  started (command.Click id) = Refuses refusal.NoEvent
  started command.Quit = Quits
  started command = Refuses refusal.NoCommand

-- commands that are never answered by memory
abbrev pub has_no_sub : List Sub → Bool
has_no_sub [] = true
has_no_sub (sub ∷ subs) = false

abbrev pub takes_no_memory : Held → Command → Bool
takes_no_memory held command.Blank = true
takes_no_memory held command.Quit = true
takes_no_memory held command.Back = has_no_sub held.subs.list
takes_no_memory held command.Forward = has_no_sub held.subs.list
takes_no_memory held (command.Jump n) = has_no_sub held.subs.list
takes_no_memory held command = false

-- the command of a line, if it has one
abbrev pub started_by : Meaning → Unpacking → Numbered → Held → Option Command → Next
started_by m unpack root held None = Refuses refusal.NoCommand
started_by m unpack root held (Some command) = started m unpack root held command

-- a line of more than 65,536 bytes is too long
abbrev pub is_too_long : List ℕ → Bool
is_too_long line = nat_lt 65536 (length line)

abbrev pub line_next : Meaning → Unpacking → Numbered → Held → List ℕ → Next
line_next m unpack root held line = if is_too_long line then Refuses refusal.LineTooLong else started_by m unpack root held (command_of line)

abbrev pub built_by : Option Command → Bool
built_by None = true
built_by (Some command) = is_built command

-- the line's command is built
abbrev pub line_built : List ℕ → Bool
line_built line = is_too_long line || built_by (command_of line)

abbrev pub spared_by : Held → Option Command → Bool
spared_by held None = false
spared_by held (Some command) = takes_no_memory held command

-- the line's reply takes no memory
abbrev pub line_spared : Held → List ℕ → Bool
line_spared held line = if is_too_long line then true else spared_by held (command_of line)

-- ---- where an answer leads

abbrev pub has_step : List (Step (List ℕ)) → Bool
has_step [] = false
has_step (step ∷ steps) = true

-- whether any list has a step
abbrev pub any_step : List (OpList (List ℕ)) → Bool
any_step lists = list_any (λ list. has_step list.steps) lists

abbrev pub shown_lists : List (OpList (List ℕ)) → List ℕ → Next
shown_lists lists numbers = Ends Stay (reply.Lists (record { lists = numbered_lists lists numbers }))

abbrev pub listed : StepList (List ℕ) → Next
listed lists = if any_step lists.lists then Goes (NamingLists lists) else shown_lists lists.lists []

abbrev pub adding : Held → Step (List ℕ) → Next
adding held step = if is_full held.trace then Refuses refusal.TraceFull else Goes (NamingStep step)

abbrev pub taking : Held → Option (Step (List ℕ)) → Next
taking held None = Refuses refusal.NoStep
taking held (Some step) = adding held step

abbrev pub searched : Held → Found (List ℕ) → Next
searched held found.Nothing = Refuses refusal.NoStep
searched held (found.Fault fault) = Refuses (refusal.Fault fault)
searched held (found.Step step) = adding held step

abbrev pub valued : ValueAnswer → Next
valued answer.NotInitialised = Refuses refusal.NotInitialised
valued (answer.Fault fault) = Refuses (refusal.Fault fault)
valued (answer.Value value bounded) = Ends Stay (reply.Value value bounded)

abbrev pub checked : ValueAnswer → Next
checked answer.NotInitialised = Refuses refusal.NotInitialised
checked (answer.Fault fault) = Refuses (refusal.Fault fault)
checked (answer.Value value bounded) = Ends Stay (reply.Invariant (is_true (out-Value value)) bounded)

abbrev pub subscribed_by : Held → FormulaKey → ValueAnswer → Next
subscribed_by held key answer = Ends (Subscribe key) (reply.Subscribed (record { number = held.subs.next; answer = answer }))

-- the value of the first of these subscriptions is told
abbrev pub telling : List Sub → Arrival → List SubValue → ValueAnswer → Option Next
telling [] arrival told answer = None
telling (sub ∷ []) arrival told answer = Some (Ends arrival.change (opened arrival.opening (told ++ record { number = sub.number; answer = answer } ∷ [])))
telling (sub ∷ next ∷ subs) arrival told answer = Some (Goes (Telling arrival (told ++ record { number = sub.number; answer = answer } ∷ [])))

abbrev pub added_step : Held → Step Numbered → Next
added_step held step = arriving held.subs.list (record { at = step.dest; change = Add step; opening = opening.Added step })

abbrev pub named_step : Held → Step (List ℕ) → List ℕ → Option Next
named_step held step [] = None
named_step held step (n ∷ numbers) = Some (added_step held (numbered_step step n))

-- where an answer leads, where it fits
abbrev pub taken_on : Held → Stage → Answer → Option Next
taken_on held Listing (given.Steps lists) = Some (listed lists)
taken_on held (Taking k) (given.Steps lists) = Some (taking held (step_of (packed_steps lists.lists) k))
taken_on held (NamingLists lists) (given.Names numbers) = Some (shown_lists lists.lists numbers)
taken_on held (NamingStep step) (given.Names numbers) = named_step held step numbers
taken_on held (Evaluating key) (given.Value answer) = Some (valued answer)
taken_on held Checking (given.Value answer) = Some (checked answer)
taken_on held (Subscribing key) (given.Value answer) = Some (subscribed_by held key answer)
taken_on held (Finding op preds) (given.Find found) = Some (searched held found)
taken_on held (Telling arrival told) (given.Value answer) = telling (drop (length told) held.subs.list) arrival told answer
taken_on held stage answer = None

-- ---- what a stage needs

abbrev pub names_needed : List (List ℕ) → Option Need
names_needed [] = None
names_needed (state ∷ states) = Some (needs.Names (state ∷ states))

abbrev pub value_needed : Numbered → Option Sub → Option Need
value_needed at None = None
value_needed at (Some sub) = Some (needs.Value at.state sub.key)

abbrev pub needed : Numbered → Held → Stage → Option Need
needed root held Listing = Some (needs.Steps (numbered_in root held.trace).state)
needed root held (Taking k) = Some (needs.Steps (numbered_in root held.trace).state)
needed root held (NamingLists lists) = names_needed (dests (packed_steps lists.lists))
needed root held (NamingStep step) = Some (needs.Names (step.dest ∷ []))
needed root held (Evaluating key) = Some (needs.Value (numbered_in root held.trace).state key)
needed root held Checking = Some (needs.Value (numbered_in root held.trace).state invariant_key)
needed root held (Subscribing key) = Some (needs.Value (numbered_in root held.trace).state key)
needed root held (Finding op preds) = Some (needs.Find (numbered_in root held.trace).state op preds)
needed root held (Telling arrival told) = value_needed arrival.at (slice_get held.subs.list (length told))

-- ---- changes

-- both are kept under one name
abbrev pub is_named_as : KeptTrace → KeptTrace → Bool
is_named_as new one = bytes_eq new.name one.name

-- a trace takes the place of the one that was kept under its name, or stands behind all
abbrev pub with_kept : KeptTrace → List KeptTrace → List KeptTrace
with_kept new [] = new ∷ []
with_kept new (kept ∷ others) = if bytes_eq new.name kept.name then new ∷ others else kept ∷ with_kept new others

abbrev pub changed_held : Held → Change → Held
changed_held held Stay = held
changed_held held (Go n) = record { trace = placed n held.trace; kept = held.kept; subs = held.subs }
changed_held held (Add step) = record { trace = added step held.trace; kept = held.kept; subs = held.subs }
changed_held held (Put trace) = record { trace = trace; kept = held.kept; subs = held.subs }
changed_held held (Subscribe key) = record { trace = held.trace; kept = held.kept; subs = subscribed key held.subs }
changed_held held (Unsubscribe n) = record { trace = held.trace; kept = held.kept; subs = unsubscribed n held.subs }
changed_held held (Keep kept) = record { trace = held.trace; kept = with_kept kept held.kept; subs = held.subs }
