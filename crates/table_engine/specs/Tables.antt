-- What a table means.
use Rattle.std.specs.Prelude.{ℕ, zero, suc, ◌==◌, nat_eq, nat_lt, pos, Bool, true, false, List, [], ◌∷◌, map, Option, Some, None, Result, Ok, Err, slice_get, if◌then◌else◌}
use Rattle.std.specs.Option.{option_map_or}
use Rattle.std.specs.Cmp.Lexicographic.{pointwise}
use Rattle.b_values.specs.declared.types.OpId.{OpId}
use Rattle.b_values.specs.declared.types.OpId.TheVariants as op
use Rattle.b_values.specs.declared.types.Prefs.{Prefs}
use Rattle.b_values.specs.declared.values.State.{State}
use Rattle.b_values.specs.declared.values.State.TheVariants.{Root, Constants, Running}
use Rattle.b_values.specs.declared.values.Value.{Value, out-Value}
use Rattle.b_values.specs.declared.values.Value.TheOpen.{Value-F}
use Rattle.b_values.specs.declared.values.Value.TheVariants.{Int, Truth}
use Rattle.engine_face.specs.Meaning.{Meaning}
use Rattle.engine_face.specs.Packing.{Unpacking, plain_lists, plain_found, plain_confirmed}
use Rattle.engine_face.specs.declared.answers.Step.{Step}
use Rattle.engine_face.specs.declared.answers.OpList.{OpList}
use Rattle.engine_face.specs.declared.answers.StepList.{StepList}
use Rattle.engine_face.specs.declared.answers.ValueAnswer.{ValueAnswer}
use Rattle.engine_face.specs.declared.answers.ValueAnswer.TheVariants as value
use Rattle.engine_face.specs.declared.answers.Found.{Found}
use Rattle.engine_face.specs.declared.answers.Found.TheVariants as found
use Rattle.engine_face.specs.declared.answers.Confirmed.{Confirmed}
use Rattle.engine_face.specs.declared.answers.Confirmed.TheVariants as confirmed
use Rattle.engine_face.specs.declared.keys.FormulaKey.{FormulaKey}
use Rattle.engine_face.specs.declared.keys.LoadKind.{LoadKind}
use Rattle.engine_face.specs.declared.keys.LoadKind.TheVariants.{NotASentence}
use Rattle.table_engine.specs.Faces.{table_face}
use Rattle.table_engine.specs.declared.listing.TableOp.{TableOp}
use Rattle.table_engine.specs.declared.listing.TableOp.TheVariants as table
use Rattle.table_engine.specs.declared.listing.TableState.{TableState}
use Rattle.table_engine.specs.declared.listing.TableState.TheVariants as state
use Rattle.table_engine.specs.declared.listing.TableList.{TableList}
use Rattle.table_engine.specs.declared.listing.Listed.{Listed}
use Rattle.table_engine.specs.declared.listing.Listed.TheVariants as listed
use Rattle.table_engine.specs.declared.listing.Finding.{Finding}
use Rattle.table_engine.specs.declared.listing.Confirming.{Confirming}
use Rattle.table_engine.specs.declared.listing.Row.{Row}
use Rattle.table_engine.specs.declared.listing.Answered.{Answered}
use Rattle.table_engine.specs.declared.listing.Answered.TheVariants as answered
use Rattle.table_engine.specs.declared.listing.FormulaRow.{FormulaRow}

-- ---- states and their numbers

-- root has number 0, and n is the state in which the variable is n
abbrev pub numbered_state : ℕ → State
numbered_state zero = Root
numbered_state (suc n) = Running [] (Int (pos (suc n)) ∷ [])

abbrev pub number_of_layer : Value-F Value → ℕ
number_of_layer (Value-F.Int (pos n)) = n
number_of_layer v = 0

abbrev pub number_of : State → ℕ
number_of (Running cs (v ∷ [])) = number_of_layer (out-Value v)
number_of s = 0

abbrev pub byte_of : TableState → ℕ
byte_of state.Root = 0
byte_of state.A = 1
byte_of state.B = 2
byte_of state.C = 3
byte_of state.D = 4

-- a state is packed as its number in one byte
abbrev pub table_unpack : Unpacking
table_unpack (n ∷ []) = if nat_lt n 5 then Some (numbered_state n) else None
table_unpack bytes = None

-- ---- answers with numbers in the places of states

abbrev pub op_of : TableOp → OpId
op_of table.Setup = op.Setup
op_of table.Init = op.Init
op_of table.Up = op.Op 0
op_of table.Down = op.Op 1

-- the step of an operation to a state
abbrev pub packed_step : OpId → TableState → Step (List ℕ)
packed_step op s = record { op = op; params = []; results = []; dest = byte_of s ∷ [] }

abbrev pub packed_list : TableList → OpList (List ℕ)
packed_list list = record { op = op_of list.op; steps = map (packed_step (op_of list.op)) list.to; end = list.end }

abbrev pub same_op : OpId → OpId → Bool
same_op op.Setup op.Setup = true
same_op op.Init op.Init = true
same_op (op.Op m) (op.Op n) = m == n
same_op a b = false

abbrev pub packed_found : OpId → Listed → Found (List ℕ)
packed_found op (listed.To s) = found.Step (packed_step op s)
packed_found op listed.Nothing = found.Nothing
packed_found op (listed.Fault fault) = found.Fault fault

-- the answer of the first row of the operation
abbrev pub found_in : OpId → List Finding → Found (List ℕ)
found_in op [] = found.Nothing
found_in op (f ∷ fs) = if same_op f.op op then packed_found op f.listed else found_in op fs

abbrev pub confirmed_in : List ℕ → List Confirming → Confirmed (List ℕ)
confirmed_in name [] = confirmed.NotAStep
confirmed_in name (c ∷ cs) = if pointwise nat_eq c.name name then confirmed.Step (packed_step (op_of c.op) c.to) else confirmed_in name cs

-- ---- formulas

abbrev pub formula_row : List FormulaRow → List ℕ → Option FormulaRow
formula_row [] text = None
formula_row (row ∷ rows) text = if pointwise nat_eq row.text text then Some row else formula_row rows text

-- a number isn't listed for a predicate
abbrev pub answer_of : Bool → Option Answered → ValueAnswer
answer_of predicate None = value.NotInitialised
answer_of predicate (Some answered.NotInitialised) = value.NotInitialised
answer_of predicate (Some (answered.Fault fault)) = value.Fault fault
answer_of predicate (Some (answered.Truth b)) = value.Value (Truth b) false
answer_of true (Some (answered.Number n)) = value.NotInitialised
answer_of false (Some (answered.Number n)) = value.Value (Int (pos n)) false

abbrev pub key_of : FormulaRow → FormulaKey
key_of row = record { text = row.text; predicate = row.predicate }

abbrev pub key_or_refusal : Option FormulaRow → Result FormulaKey LoadKind
key_or_refusal None = Err NotASentence
key_or_refusal (Some row) = Ok (key_of row)

-- ---- the meaning

abbrev pub lists_of : List Row → ℕ → StepList (List ℕ)
lists_of rows n = record { lists = option_map_or (λ row. map packed_list row.lists) (slice_get rows n) [] }

abbrev pub found_of : List Row → OpId → ℕ → Found (List ℕ)
found_of rows op n = option_map_or (λ row. found_in op row.finds) (slice_get rows n) found.Nothing

abbrev pub confirmed_of : List Row → List ℕ → ℕ → Confirmed (List ℕ)
confirmed_of rows name n = option_map_or (λ row. confirmed_in name row.confirms) (slice_get rows n) confirmed.NotAStep

abbrev pub listed_answer : Option FormulaRow → ℕ → Option Answered
listed_answer None n = None
listed_answer (Some row) n = slice_get row.answers n

abbrev pub meaning_of : Prefs → List Row → List FormulaRow → Meaning
meaning_of prefs rows formulas = record {
  face = table_face prefs;
  root = Root;
  expand = λ s. plain_lists table_unpack (lists_of rows (number_of s));
  value = λ s key. answer_of key.predicate (listed_answer (formula_row formulas key.text) (number_of s));
  find = λ s op preds. plain_found table_unpack (found_of rows op (number_of s));
  confirm = λ s saved. plain_confirmed table_unpack (confirmed_of rows saved.name (number_of s));
  read_formula = λ scope text. key_or_refusal (formula_row formulas text);
  canonical = λ key. key.text;
}
