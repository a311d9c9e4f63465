-- The text of each reply, under a machine's names and the numbers of states.
use Rattle.std.specs.Prelude.{ℕ, ◌+◌, Bool, List, [], ◌∷◌, ◌++◌, length, drop, map, flat_map, Option, Some, None, slice_get, if◌then◌else◌, codes}
use Rattle.std.specs.Option.{option_map_or}
use Rattle.std.specs.Fmt.{decimal}
use Rattle.b_values.specs.declared.types.Face.{Face}
use Rattle.b_values.specs.declared.types.NameFace.{NameFace}
use Rattle.b_values.specs.declared.types.OpId.{OpId}
use Rattle.b_values.specs.declared.types.OpId.TheVariants as op
use Rattle.b_values.specs.declared.values.Value.{Value}
use Rattle.b_values.specs.Texts.{text_of, commas}
use Rattle.engine_face.specs.declared.answers.Step.{Step}
use Rattle.engine_face.specs.declared.answers.OpList.{OpList}
use Rattle.engine_face.specs.declared.answers.StepList.{StepList}
use Rattle.session_words.specs.declared.replies.SubValue.{SubValue}
use Rattle.session_words.specs.declared.replies.SubText.{SubText}
use Rattle.session_words.specs.declared.replies.ItemValue.{ItemValue}
use Rattle.session_words.specs.declared.replies.Reply.{Reply}
use Rattle.session_words.specs.declared.replies.Reply.TheVariants.{Silent, Done, Info, Lists, Added, Moved, Trace, State, Value as Valued, Subscribed, Subscriptions, Invariant, Saved, Migrated, Replayed, VisbItems, Walked, Refused}
use Rattle.session_words.specs.Texts.{line, refusal_text, bounded_mark, end_text, shown_value, answer_by}

-- the name of an operation
abbrev pub op_name : Face → OpId → List ℕ
op_name face op.Setup = codes "$setup_constants"
op_name face op.Init = codes "$initialise_machine"
op_name face (op.Op n) = option_map_or (λ f. f.name) (slice_get face.ops n) []

-- values with commas between them
abbrev pub values_text : Face → List Value → List ℕ
values_text face values = commas (map (text_of face.sets) values)

-- `RESULTS <-- `, or nothing
abbrev pub results_text : Face → List Value → List ℕ
results_text face [] = []
results_text face (v ∷ values) = values_text face (v ∷ values) ++ codes " <-- "

-- `(PARAMS)`, or nothing
abbrev pub params_text : Face → List Value → List ℕ
params_text face [] = []
params_text face (v ∷ values) = codes "(" ++ values_text face (v ∷ values) ++ codes ")"

-- `NAME = VALUE` for each name that has a value
abbrev pub named_values : Face → List NameFace → List Value → List ℕ
named_values face [] values = []
named_values face (name ∷ names) [] = []
named_values face (name ∷ names) (v ∷ values) = line (name.name ++ codes " = " ++ text_of face.sets v) ++ named_values face names values

abbrev pub sub_line : Face → SubValue → List ℕ
sub_line face sub = line (codes "sub " ++ decimal sub.number ++ codes " = " ++ answer_by (text_of face.sets) sub.answer)

abbrev pub sub_text : SubText → List ℕ
sub_text sub = line (codes "sub " ++ decimal sub.number ++ codes " " ++ sub.text)

abbrev pub item_line : Face → ItemValue → List ℕ
item_line face item = line (codes "item " ++ item.id ++ codes " " ++ item.attr ++ codes " = " ++ answer_by (shown_value face) item.answer)

abbrev pub truth_text : Bool → List ℕ
truth_text holds = if holds then codes "TRUE" else codes "FALSE"

abbrev pub position_line : ℕ → ℕ → List ℕ
position_line position len = line (codes "position " ++ decimal position ++ codes " of " ++ decimal len)

-- Where a state is written as a number.
module _ {D : Type 0} (face : Face) (number : D → ℕ) where
  abbrev pub state_line : D → List ℕ
  state_line state = line (codes "state " ++ decimal (number state))

  -- `RESULTS <-- NAME(PARAMS) : ID`
  abbrev pub step_line : Step D → List ℕ
  step_line step =
      results_text face step.results ++ op_name face step.op ++ params_text face step.params ++ line (codes " : " ++ decimal (number step.dest))

  -- `K STEP` for each step, counted from k on
  abbrev pub step_lines : ℕ → List (Step D) → List ℕ
  step_lines k [] = []
  step_lines k (step ∷ steps) = decimal k ++ codes " " ++ step_line step ++ step_lines (k + 1) steps

  -- the steps of each list, counted through from k on, and how the list ends
  abbrev pub list_lines : ℕ → List (OpList D) → List ℕ
  list_lines k [] = []
  list_lines k (list ∷ lists) = step_lines k list.steps ++ line (op_name face list.op ++ end_text list.end) ++ list_lines (k + length list.steps) lists

  -- what a state shows: root, or the values of the constants and then of the variables
  abbrev pub state_lines : Option (List Value) → List ℕ
  state_lines None = line (codes "root")
  state_lines (Some values) =
      named_values face face.constants values ++ named_values face face.variables (drop (length face.constants) values)

  abbrev pub sub_lines : List SubValue → List ℕ
  sub_lines subs = flat_map (sub_line face) subs

  abbrev pub trace_lines : ℕ → List (Step D) → List ℕ
  trace_lines position steps = position_line position (length steps) ++ step_lines 1 steps

  -- the lines of a reply before its `ok`
  abbrev pub reply_lines : Reply D → List ℕ
  reply_lines Silent = []
  reply_lines Done = []
  reply_lines (Info state position len) = line (codes "machine " ++ face.name) ++ state_line state ++ position_line position len
  reply_lines (Lists list) = list_lines 1 list.lists
  reply_lines (Added step subs) = step_line step ++ sub_lines subs
  reply_lines (Moved state subs) = state_line state ++ sub_lines subs
  reply_lines (Trace position steps) = trace_lines position steps
  reply_lines (State state values) = state_line state ++ state_lines values
  reply_lines (Valued v bounded) = line (codes "value " ++ text_of face.sets v ++ bounded_mark bounded)
  reply_lines (Subscribed sub) = sub_line face sub
  reply_lines (Subscriptions subs) = flat_map sub_text subs
  reply_lines (Invariant holds bounded) = line (codes "invariant " ++ truth_text holds ++ bounded_mark bounded)
  reply_lines (Saved len) = line (codes "saved " ++ decimal len)
  reply_lines (Migrated len) = line (codes "migrated " ++ decimal len)
  reply_lines (Replayed steps subs) = trace_lines (length steps) steps ++ sub_lines subs
  reply_lines (VisbItems items) = flat_map (item_line face) items
  reply_lines (Walked steps subs) = flat_map step_line steps ++ sub_lines subs
  reply_lines (Refused refusal) = []

  -- a reply is nothing, an error alone, or its lines and then `ok`
  abbrev pub reply_text : Reply D → List ℕ
  reply_text Silent = []
  reply_text (Refused refusal) = line (codes "error " ++ refusal_text refusal)
  reply_text reply = reply_lines reply ++ line (codes "ok")

-- the states that a reply shows, in the order of showing
abbrev pub dests : {D : Type 0} → List (Step D) → List D
dests steps = map (λ step. step.dest) steps

abbrev pub states_in : {D : Type 0} → Reply D → List D
states_in Silent = []
states_in Done = []
states_in (Info state position len) = state ∷ []
states_in (Lists list) = flat_map (λ ops. dests ops.steps) list.lists
states_in (Added step subs) = step.dest ∷ []
states_in (Moved state subs) = state ∷ []
states_in (Trace position steps) = dests steps
states_in (State state values) = state ∷ []
states_in (Valued v bounded) = []
states_in (Subscribed sub) = []
states_in (Subscriptions subs) = []
states_in (Invariant holds bounded) = []
states_in (Saved len) = []
states_in (Migrated len) = []
states_in (Replayed steps subs) = dests steps
states_in (VisbItems items) = []
states_in (Walked steps subs) = dests steps
states_in (Refused refusal) = []
