-- What each operator on sequences answers, a row each.
use Rattle.std.specs.Prelude.{ℕ, ◌-◌, ℤ, pos, negsuc, Bool, List, [], ◌∷◌, ◌++◌, Option, Some, None, Result, Err, if◌then◌else◌, nat_le, length, reverse, take, drop, slice_get, is_some, unwrap_or, option_and_then}
use Rattle.std.specs.Option.{ok_or, option_map}
use Rattle.std.specs.List.{list_all, flat_map}
use Rattle.b_values.specs.Values.{limited}
use Rattle.b_values.specs.declared.values.FaultKind.{FaultKind}
use Rattle.b_values.specs.declared.values.FaultKind.TheVariants.{IllDefined}
use Rattle.b_values.specs.declared.values.Value.{Value, out-Value}
use Rattle.b_values.specs.declared.values.Value.TheOpen.{Value-F}
use Rattle.b_values.specs.declared.values.Value.TheVariants.{Int}
use Rattle.b_sequences.specs.Sequences.{as_sequence, sequence_of}

-- the sequence of a list, or the fault where it has too many nodes; no list is ill-defined
abbrev pub sequence_answer : Option (List Value) → Result Value FaultKind
sequence_answer None = Err IllDefined
sequence_answer (Some xs) = limited (sequence_of xs)

-- the value; none is ill-defined
abbrev pub value_answer : Option Value → Result Value FaultKind
value_answer x = ok_or x IllDefined

-- size(s)
abbrev pub size_row : Value → Result Value FaultKind
size_row s = value_answer (option_map (λ xs. Int (pos (length xs))) (as_sequence s))

-- rev(s)
abbrev pub rev_row : Value → Result Value FaultKind
rev_row s = sequence_answer (option_map reverse (as_sequence s))

-- first(s)
abbrev pub first_row : Value → Result Value FaultKind
first_row s = value_answer (option_and_then (λ xs. slice_get xs 0) (as_sequence s))

-- last(s)
abbrev pub last_row : Value → Result Value FaultKind
last_row s = value_answer (option_and_then (λ xs. slice_get xs (length xs - 1)) (as_sequence s))

-- all but the last of a list that has one
abbrev pub all_but_last : List Value → Option (List Value)
all_but_last [] = None
all_but_last (x ∷ xs) = Some (take (length xs) (x ∷ xs))

-- front(s)
abbrev pub front_row : Value → Result Value FaultKind
front_row s = sequence_answer (option_and_then all_but_last (as_sequence s))

-- all but the first of a list that has one
abbrev pub all_but_first : List Value → Option (List Value)
all_but_first [] = None
all_but_first (x ∷ xs) = Some xs

-- tail(s)
abbrev pub tail_row : Value → Result Value FaultKind
tail_row s = sequence_answer (option_and_then all_but_first (as_sequence s))

-- s ^ t
abbrev pub concat_row : Value → Value → Result Value FaultKind
concat_row s t = sequence_answer (option_and_then (λ xs. option_map (λ ys. xs ++ ys) (as_sequence t)) (as_sequence s))

-- x -> s
abbrev pub prepend_row : Value → Value → Result Value FaultKind
prepend_row x s = sequence_answer (option_map (λ xs. x ∷ xs) (as_sequence s))

-- s <- x
abbrev pub append_row : Value → Value → Result Value FaultKind
append_row s x = sequence_answer (option_map (λ xs. xs ++ x ∷ []) (as_sequence s))

-- the number, where it is from 0 to the limit
abbrev pub index_within : ℕ → ℤ → Option ℕ
index_within limit (pos n) = if nat_le n limit then Some n else None
index_within limit (negsuc n) = None

-- the same, where the layer is a number
abbrev pub number_within : {X : Type 0} → ℕ → Value-F X → Option ℕ
number_within limit (Value-F.Int n) = index_within limit n
number_within limit x = None

-- s /|\ n
abbrev pub take_row : Value → Value → Result Value FaultKind
take_row s n = sequence_answer (option_and_then (λ xs. option_map (λ k. take k xs) (number_within (length xs) (out-Value n))) (as_sequence s))

-- s \|/ n
abbrev pub drop_first_row : Value → Value → Result Value FaultKind
drop_first_row s n = sequence_answer (option_and_then (λ xs. option_map (λ k. drop k xs) (number_within (length xs) (out-Value n))) (as_sequence s))

abbrev pub is_sequence : Value → Bool
is_sequence v = is_some (as_sequence v)

abbrev pub list_of : Value → List Value
list_of v = unwrap_or (as_sequence v) []

-- the lists of these sequences joined, where each is a sequence
abbrev pub joined : List Value → Option (List Value)
joined vs = if list_all is_sequence vs then Some (flat_map list_of vs) else None

-- conc(s)
abbrev pub conc_row : Value → Result Value FaultKind
conc_row s = sequence_answer (option_and_then joined (as_sequence s))
