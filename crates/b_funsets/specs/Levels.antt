-- How the functions are built, an element of S after another: what the private calls cite.
use Rattle.std.specs.Prelude.{◌≡◌, ℕ, ◌+◌, ◌-◌, ◌<◌, ◌≤◌, drop, Bool, true, ◌&&◌, ◌||◌, not, nat_le, nat_lt, ◌==◌, if◌then◌else◌, List, [], ◌∷◌, ◌++◌, map, filter, reverse, length, sum, Result, Ok, Err}
use Rattle.std.specs.List.{list_any, flat_map}
use Rattle.b_values.specs.Values.{node_count, same_value}
use Rattle.b_values.specs.declared.values.FaultKind.TheVariants.{IllDefined, Overflow, TooLarge}
use Rattle.b_values.specs.declared.values.Value.{Value}
use Rattle.b_values.specs.declared.values.Value.TheVariants.{Pair}
use Rattle.set_making.specs.declared.OpFault.{OpFault}
use Rattle.set_making.specs.declared.OpFault.TheVariants.{Fault, Memory}
use Rattle.b_funsets.specs.declared.levels.Arrow.{Arrow}
use Rattle.b_funsets.specs.declared.levels.Row.{Row}
use Rattle.b_funsets.specs.Families.{IsRelation}
use Rattle.b_funsets.specs.Arrows.{second, is_function, is_one_to_one, is_total, is_onto, IsFunctional, IsOneToOne, IsTotal, IsOnto}

-- the row as a relation: its couples in order
abbrev pub read : Row → List Value
read row = reverse row.couples

-- y is an image already
abbrev pub hits : List Value → Value → Bool
hits r y = list_any (λ p. same_value (second p) y) r

-- the arrow needs to know how many elements of T are no images yet
abbrev pub counts : Arrow → Bool
counts a = a.onto || (a.total && a.one_to_one)

-- a row with so many elements of T left can be completed by k more elements of S, where T has some or none
abbrev pub viable : Arrow → ℕ → ℕ → Bool → Bool
viable a k left some = (not a.onto || nat_le left k) && (not (a.total && a.one_to_one) || nat_le k left) && (not a.total || (k == 0) || some)

-- how many are left after another image
abbrev pub left_after : ℕ → Bool → ℕ
left_after left hit = if hit then left else left - 1

-- the row may take the couple
abbrev pub takes : Arrow → ℕ → Bool → Row → Value → Bool
takes a k some row c = (not a.one_to_one || not (hits row.couples (second c))) && viable a k (left_after row.left (hits row.couples (second c))) some

-- the row may pass over the element
abbrev pub skips : Arrow → ℕ → Bool → Row → Bool
skips a k some row = not a.total && viable a k row.left some

-- the row with another couple
abbrev pub extended : Row → Value → Row
extended row c = record { couples = row.couples ++ c ∷ []; left = left_after row.left (hits row.couples (second c)); nodes = row.nodes + node_count c }

-- the rows that one row becomes at the next element, of these couples
abbrev pub children : Arrow → ℕ → Bool → List Value → Row → List Row
children a k some cs row = map (extended row) (filter (takes a k some row) cs) ++ (if skips a k some row then row ∷ [] else [])

-- the empty row, where it can be completed
abbrev pub start : Arrow → ℕ → ℕ → List Row
start a n k = if viable a k (if counts a then n else 0) (nat_lt 0 n) then record { couples = []; left = if counts a then n else 0; nodes = 1 } ∷ [] else []

-- the rows over s that k more elements can complete
abbrev pub level : Arrow → List Value → ℕ → List Value → List Row
level a t k [] = start a (length t) k
level a t k (x ∷ s) = flat_map (children a k (nat_lt 0 (length t)) (map (λ y. Pair x y) t)) (reverse (level a t (k + 1) s))

-- the nodes of rows together
abbrev pub weight : List Row → ℕ
weight rows = sum (map (λ (row : Row). row.nodes) rows)

-- what is left of a budget of nodes, or the fault where they are more
abbrev pub Spends : ℕ → ℕ → Result ℕ OpFault → Type 0
Spends nodes budget (Ok left) = nodes + left ≡ budget
Spends nodes budget (Err (Fault IllDefined)) = ⊥
Spends nodes budget (Err (Fault Overflow)) = ⊥
Spends nodes budget (Err (Fault TooLarge)) = budget < nodes
Spends nodes budget (Err Memory) = Unit {0}

-- these rows; or the fault where they have more nodes than a set may have, or a level before has
abbrev pub Gives : List Row → Type 0 → Result (List Row) OpFault → Type 0
Gives rows Large (Ok found) = found ≡ rows
Gives rows Large (Err (Fault IllDefined)) = ⊥
Gives rows Large (Err (Fault Overflow)) = ⊥
Gives rows Large (Err (Fault TooLarge)) = Large
Gives rows Large (Err Memory) = Unit {0}

-- a level has more nodes than the members of a set may have
abbrev pub GrowsLarge : Arrow → List Value → List Value → Type 0
GrowsLarge a t s = (k : ℕ) × (k ≤ length s) × (999999 < weight (level a t k (drop k s)))

-- what is asked of a relation that is a function
abbrev pub is_such : Arrow → List Value → List Value → List Value → Bool
is_such a s t r = is_function r && (not a.total || is_total s r) && (not a.one_to_one || is_one_to_one r) && (not a.onto || is_onto t r)

-- v is a function from S to T of the kind that is asked for
pub record IsSuch (a : Arrow) (s t v : Value) : Type 0 where
  pub relation : IsRelation s t v
  pub functional : IsFunctional v
  pub total : a.total ≡ true → IsTotal s v
  pub one_to_one : a.one_to_one ≡ true → IsOneToOne v
  pub onto : a.onto ≡ true → IsOnto t v
