-- How couples of two relations are joined, and what a gathering holds after more is added.
use Rattle.std.specs.Prelude.{◌≡◌, Bool, true, List, ◌++◌, map, filter, Result, Ok, Err}
use Rattle.std.specs.List.{flat_map}
use Rattle.ascending.specs.Ascending.{set_of}
use Rattle.b_values.specs.Values.{same_value, value_cmp}
use Rattle.b_values.specs.declared.values.Value.{Value}
use Rattle.b_values.specs.declared.values.Value.TheVariants.{Pair}
use Rattle.set_making.specs.declared.OpFault.{OpFault}
use Rattle.set_making.specs.Making.{set_with, FaultOf}
use Rattle.b_relations.specs.declared.joining.Join.{Join}
use Rattle.b_relations.specs.declared.joining.Join.TheVariants.{Compose, Direct, Parallel}
use Rattle.b_relations.specs.declared.walking.Side.{Side}
use Rattle.b_relations.specs.declared.walking.Side.TheVariants.{Left, Right}

-- whether q goes with p
abbrev pub meets : Join → Value × Value → Value × Value → Bool
meets Compose p q = same_value q.0 p.1
meets Direct p q = same_value q.0 p.0
meets Parallel p q = true

-- what is made of p and q
abbrev pub made : Join → Value × Value → Value × Value → Value
made Compose p q = Pair p.0 q.1
made Direct p q = Pair p.0 (Pair p.1 q.1)
made Parallel p q = Pair (Pair p.0 q.0) (Pair p.1 q.1)

-- what is made of p and those of qs that go with it
abbrev pub joined_to : Join → List (Value × Value) → Value × Value → List Value
joined_to how qs p = map (made how p) (filter (meets how p) qs)

-- what is made of each of ps and those of qs that go with it
abbrev pub joined : Join → List (Value × Value) → List (Value × Value) → List Value
joined how ps qs = flat_map (joined_to how qs) ps

-- a couple of x and y, and its part at a side
abbrev pub projection : Side → Value → Value → Value
projection Left x y = Pair (Pair x y) x
projection Right x y = Pair (Pair x y) y

-- a gathering that held the set of xs holds the set of xs and more, or a fault is that of the set of both
abbrev pub Adds : List Value → List Value → Result (Unit {0}) OpFault → List Value → Type 0
Adds old more (Ok done) new = (xs : List Value) → old ≡ set_of value_cmp xs → new ≡ set_of value_cmp (xs ++ more)
Adds old more (Err e) new = (xs : List Value) → old ≡ set_of value_cmp xs → FaultOf (set_with (xs ++ more)) e
