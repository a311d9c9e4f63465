-- What may be packed: texts and sets whose lengths fit four bytes.
use Rattle.std.specs.Prelude.{◌<◌, ◌^◌, length}
use Rattle.b_values.specs.declared.values.Value.{Value, every-Value}
use Rattle.b_values.specs.declared.values.Value.TheOpen.{Value-F}

abbrev pub LayerShort : Value-F Value → Type 0
LayerShort (Value-F.Text s) = length s < 2 ^ 32
LayerShort (Value-F.Set xs) = length xs < 2 ^ 32
LayerShort v = Unit {0}

-- each text and each set in the value is shorter than 2^32
abbrev pub IsShort : Value → Type 0
IsShort = every-Value LayerShort
