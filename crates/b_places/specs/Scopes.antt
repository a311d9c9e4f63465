-- The values of the slots in scope, the outermost first.
use Rattle.std.specs.Prelude.{List, ◌++◌}
use Rattle.b_values.specs.declared.values.Value.{Value}
use Rattle.b_places.specs.declared.scope.Scope.{Scope, fold-Scope}
use Rattle.b_places.specs.declared.scope.Scope.TheOpen.{Scope-F}

-- the values of the slots, the outermost first
abbrev pub Slots : Type 0
Slots = List Value

abbrev pub slots_layer : Scope-F Slots → Slots
slots_layer (Scope-F.Slots values) = values.now
slots_layer (Scope-F.Inside outer values) = outer.now ++ values.now

abbrev pub slots_of : Scope → Slots
slots_of = fold-Scope Slots slots_layer
