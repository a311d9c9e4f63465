-- What is gathered for a set.
use Rattle.std.specs.Prelude.{List}
use Rattle.b_values.specs.declared.values.Value.{Value}

-- the members so far, ascending
abbrev pub Gathered : Type 0
Gathered = List Value
