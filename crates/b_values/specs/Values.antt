-- The order of values, their size, and what a value is.
use Rattle.std.specs.Prelude.{ℕ, ◌+◌, ◌≤◌, nat_le, if◌then◌else◌, Result, Ok, Err, Bool, true, false, ◌&&◌, List, [], sum}
use Rattle.std.specs.declared.cmp.Ordering.{Ordering}
use Rattle.std.specs.Ordering.{ordering_then, nat_cmp, int_cmp, bool_cmp, is_eq}
use Rattle.std.specs.Cmp.Lexicographic.{slice_cmp, pointwise}
use Rattle.ascending.specs.Ascending.{IsAscending}
use Rattle.b_values.specs.declared.values.FaultKind.{FaultKind}
use Rattle.b_values.specs.declared.values.FaultKind.TheVariants.{TooLarge}
use Rattle.b_values.specs.declared.values.State.{State}
use Rattle.b_values.specs.declared.values.State.TheVariants.{Root, Constants, Running}
use Rattle.b_values.specs.declared.values.Value.{Value, out-Value, fold-Value, every-Value}
use Rattle.b_values.specs.declared.values.Value.TheOpen.{Value-F}

-- the kinds in their order
abbrev pub rank : {X : Type 0} → Value-F X → ℕ
rank (Value-F.Int n) = 0
rank (Value-F.Truth b) = 1
rank (Value-F.Text s) = 2
rank (Value-F.Elem s i) = 3
rank (Value-F.Pair a b) = 4
rank (Value-F.Set xs) = 5

-- two values, the first with the comparisons of its parts in their places
abbrev pub compare_layer : Value-F (Value → Ordering) → Value-F Value → Ordering
compare_layer (Value-F.Int m) (Value-F.Int n) = int_cmp m n
compare_layer (Value-F.Truth p) (Value-F.Truth q) = bool_cmp p q
compare_layer (Value-F.Text s) (Value-F.Text t) = slice_cmp nat_cmp s t
compare_layer (Value-F.Elem s i) (Value-F.Elem t j) = ordering_then (nat_cmp s t) (nat_cmp i j)
compare_layer (Value-F.Pair f g) (Value-F.Pair a b) = ordering_then (f a) (g b)
compare_layer (Value-F.Set fs) (Value-F.Set xs) = slice_cmp (λ f x. f x) fs xs
compare_layer x y = nat_cmp (rank x) (rank y)

-- the order: by kind, then numbers, FALSE before TRUE, bytes, set and position, parts, members
abbrev pub value_cmp : Value → Value → Ordering
value_cmp = fold-Value (Value → Ordering) (λ x v. compare_layer x (out-Value v))

-- one node, and those of the parts
abbrev pub count_layer : Value-F ℕ → ℕ
count_layer (Value-F.Int n) = 1
count_layer (Value-F.Truth b) = 1
count_layer (Value-F.Text s) = 1
count_layer (Value-F.Elem s i) = 1
count_layer (Value-F.Pair m n) = 1 + m + n
count_layer (Value-F.Set ns) = 1 + sum ns

-- how many nodes a value has: each value, couple and set in it is one
abbrev pub node_count : Value → ℕ
node_count = fold-Value ℕ count_layer

-- a set's members are strictly ascending
abbrev pub LayerAscends : Value-F Value → Type 0
LayerAscends (Value-F.Set xs) = IsAscending value_cmp xs
LayerAscends x = Unit {0}

-- each set in the value is strictly ascending, the value itself included
abbrev pub IsValue : Value → Type 0
IsValue = every-Value LayerAscends

-- the members at a layer: none where it is no set
abbrev pub members_of : {X : Type 0} → Value-F X → List X
members_of (Value-F.Set xs) = xs
members_of x = []

-- the members of a set, ascending; of another value none
abbrev pub elements : Value → List Value
elements v = members_of (out-Value v)

-- a value that may be kept: each set in it ascends, and it has at most a million nodes
pub record IsKept (v : Value) : Type 0 where
  pub value : IsValue v
  pub size : node_count v ≤ 1000000

-- the value, or the fault where it has too many nodes
abbrev pub limited : Value → Result Value FaultKind
limited v = if nat_le (node_count v) 1000000 then Ok v else Err TooLarge

-- the two values are one
abbrev pub same_value : Value → Value → Bool
same_value a b = is_eq (value_cmp a b)

-- the two states are one
abbrev pub same_state : State → State → Bool
same_state Root Root = true
same_state (Constants cs) (Constants ds) = pointwise same_value cs ds
same_state (Running cs vs) (Running ds ws) = pointwise same_value cs ds && pointwise same_value vs ws
same_state Root (Constants ds) = false
same_state Root (Running ds ws) = false
same_state (Constants cs) Root = false
same_state (Constants cs) (Running ds ws) = false
same_state (Running cs vs) Root = false
same_state (Running cs vs) (Constants ds) = false
