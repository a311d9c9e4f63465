-- Sequences: the sequence of a list of values, and the list of a sequence.
use Rattle.std.specs.Prelude.{◌≡◌, List, ◌∷◌, Option, Some, None, if◌then◌else◌}
use Rattle.std.specs.List.{filter_map}
use Rattle.b_values.specs.Reading.{numbered}
use Rattle.b_values.specs.Values.{elements, same_value}
use Rattle.b_values.specs.declared.values.Value.{Value, out-Value}
use Rattle.b_values.specs.declared.values.Value.TheOpen.{Value-F}
use Rattle.b_values.specs.declared.values.Value.TheVariants.{Set}

-- the sequence of these values: the set of the couples of 1, 2 and so on with them
abbrev pub sequence_of : List Value → Value
sequence_of xs = Set (numbered 1 xs)

-- the value is the sequence of some list
abbrev pub IsSequence : Value → Type 0
IsSequence v = (xs : List Value) × (v ≡ sequence_of xs)

-- the second part, where the layer is a couple
abbrev pub second_of : {X : Type 0} → Value-F X → Option X
second_of (Value-F.Pair a b) = Some b
second_of x = None

-- the second part of a couple
abbrev pub second : Value → Option Value
second v = second_of (out-Value v)

-- the second parts of the couples among these
abbrev pub seconds : List Value → List Value
seconds xs = filter_map second xs

-- the second parts of a value's couples, where it is the sequence of them
unfoldable pub as_sequence : Value → Option (List Value)
as_sequence v = if same_value v (sequence_of (seconds (elements v))) then Some (seconds (elements v)) else None

-- the value is the sequence of a list that has an element
abbrev pub IsNonempty : Value → Type 0
IsNonempty v = (x : Value) × ((xs : List Value) × (v ≡ sequence_of (x ∷ xs)))
