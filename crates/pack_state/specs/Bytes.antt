-- The bytes of a state.
use Rattle.std.specs.Prelude.{ℕ, ◌/◌, ◌%◌, ◌^◌, ◌++◌, ℤ, List, [], ◌∷◌, length, if◌then◌else◌}
use Rattle.std.specs.List.{concat, flat_map}
use Rattle.std.specs.Int.{w32, w64, w128, cast_unsigned, to_be_bytes}
use Rattle.b_values.specs.declared.values.State.{State}
use Rattle.b_values.specs.declared.values.State.TheVariants.{Root, Constants, Running}
use Rattle.b_values.specs.declared.values.Value.{Value, fold-Value}
use Rattle.b_values.specs.declared.values.Value.TheOpen.{Value-F}

-- 16 bytes of a number below 2^128, highest first
abbrev pub word_bytes : ℕ → List ℕ
word_bytes n = to_be_bytes w64 (n / 2 ^ 64) ++ to_be_bytes w64 (n % 2 ^ 64)

-- a number in 16 bytes, two's complement, highest first
abbrev pub int_bytes : ℤ → List ℕ
int_bytes z = word_bytes (cast_unsigned w128 z)

-- a count or a place in 4 bytes, highest first
abbrev pub count_bytes : ℕ → List ℕ
count_bytes n = to_be_bytes w32 n

-- a layer of a value, with the bytes of its parts in their places
abbrev pub byte_layer : Value-F (List ℕ) → List ℕ
byte_layer (Value-F.Int n) = int_bytes n
byte_layer (Value-F.Truth b) = (if b then 1 else 0) ∷ []
byte_layer (Value-F.Text s) = count_bytes (length s) ++ s
byte_layer (Value-F.Elem set index) = count_bytes index
byte_layer (Value-F.Pair a b) = a ++ b
byte_layer (Value-F.Set xs) = count_bytes (length xs) ++ concat xs

abbrev pub value_bytes : Value → List ℕ
value_bytes = fold-Value (List ℕ) byte_layer

abbrev pub values_bytes : List Value → List ℕ
values_bytes = flat_map value_bytes

-- the kind, the constants, the variables
abbrev pub state_bytes : State → List ℕ
state_bytes Root = 0 ∷ []
state_bytes (Constants cs) = 1 ∷ values_bytes cs
state_bytes (Running cs vs) = 2 ∷ (values_bytes cs ++ values_bytes vs)
