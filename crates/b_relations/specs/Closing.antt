-- Sets of couples alone.
use Rattle.std.specs.Prelude.{◌≡◌}
use Rattle.ascending.specs.Ascending.{In}
use Rattle.b_values.specs.Values.{elements}
use Rattle.b_values.specs.declared.values.Value.{Value}
use Rattle.b_relations.specs.Relations.{couple}

-- each member is a couple
abbrev pub IsRelation : Value → Type 0
IsRelation v = (z : Value) → In z (elements v) → (p : Value × Value) × (z ≡ couple p)
