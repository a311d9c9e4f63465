-- What the walks over a relation's members take, keep and compare.
use Rattle.std.specs.Prelude.{Bool, false, not, if◌then◌else◌, List, Option, Some, None}
use Rattle.std.specs.declared.cmp.Ordering.{Ordering}
use Rattle.std.specs.declared.cmp.Ordering.TheVariants.{Less, Greater}
use Rattle.std.specs.Ordering.{is_eq}
use Rattle.b_values.specs.Values.{value_cmp}
use Rattle.b_values.specs.declared.values.Value.{Value, out-Value}
use Rattle.b_values.specs.declared.values.Value.TheOpen.{Value-F}
use Rattle.b_values.specs.declared.values.Value.TheVariants.{Pair}
use Rattle.set_making.specs.Making.{is_among}
use Rattle.b_relations.specs.declared.walking.Taken.{Taken}
use Rattle.b_relations.specs.declared.walking.Taken.TheVariants.{First, Second, Turned}
use Rattle.b_relations.specs.declared.walking.Side.{Side}
use Rattle.b_relations.specs.declared.walking.Side.TheVariants.{Left, Right}
use Rattle.b_relations.specs.Relations.{parts}

-- what is taken of a couple
abbrev pub taken : Taken → Value × Value → Value
taken First p = p.0
taken Second p = p.1
taken Turned p = Pair p.1 p.0

-- the part of a couple at a side
abbrev pub part : Side → Value × Value → Value
part Left p = p.0
part Right p = p.1

-- whether the part at the side is in the set, or, where that is wanted, isn't
abbrev pub keeps : Side → List Value → Bool → Value × Value → Bool
keeps side set within p = if within then is_among set (part side p) else not (is_among set (part side p))

abbrev pub passes_parts : (Value × Value → Bool) → Option (Value × Value) → Bool
passes_parts t None = false
passes_parts t (Some p) = t p

-- the value is a couple that passes the test
abbrev pub passes : (Value × Value → Bool) → Value → Bool
passes t v = passes_parts t (parts v)

-- a layer beside x: a couple stands as its first part does, what is below all couples before, what is above them after
abbrev pub first_cmp : Value-F Value → Value → Ordering
first_cmp (Value-F.Pair a b) x = value_cmp a x
first_cmp (Value-F.Set xs) x = Greater
first_cmp y x = Less

-- the value is a couple whose first part is x
abbrev pub begins_with : Value → Value → Bool
begins_with x m = is_eq (first_cmp (out-Value m) x)
