-- The words of a value: its numbers and the places of elements.
use Rattle.std.specs.Prelude.{◌<◌, ◌^◌}
use Rattle.b_values.specs.Reading.{FitsNumber}
use Rattle.b_values.specs.declared.values.Value.{Value, every-Value}
use Rattle.b_values.specs.declared.values.Value.TheOpen.{Value-F}

-- a number has 128 bits, and an element's place 32
abbrev pub LayerWords : Value-F Value → Type 0
LayerWords (Value-F.Int n) = FitsNumber n
LayerWords (Value-F.Elem set index) = index < 2 ^ 32
LayerWords v = Unit {0}

-- each number and each place in the value fits
abbrev pub WordsFit : Value → Type 0
WordsFit = every-Value LayerWords
