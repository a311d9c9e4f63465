-- What each operator on sets answers, a row each. What is no set has no members.
use Rattle.std.specs.Prelude.{ℕ, ◌-◌, ℤ, pos, negsuc, ◌+ℤ◌, ◌-ℤ◌, Bool, not, List, [], ◌∷◌, ◌++◌, length, map, filter, slice_get, Result, Ok, Err}
use Rattle.std.specs.Option.{ok_or}
use Rattle.std.specs.List.{flat_map, list_all, range_with_len}
use Rattle.b_values.specs.Values.{elements}
use Rattle.b_values.specs.declared.values.FaultKind.{FaultKind}
use Rattle.b_values.specs.declared.values.FaultKind.TheVariants.{IllDefined}
use Rattle.b_values.specs.declared.values.Value.{Value, out-Value}
use Rattle.b_values.specs.declared.values.Value.TheOpen.{Value-F}
use Rattle.b_values.specs.declared.values.Value.TheVariants.{Int, Pair}
use Rattle.set_making.specs.Making.{set_with, is_among}

-- min(S): the first member, since members ascend
abbrev pub min_row : Value → Result Value FaultKind
min_row s = ok_or (slice_get (elements s) 0) IllDefined

-- max(S): the last member
abbrev pub max_row : Value → Result Value FaultKind
max_row s = ok_or (slice_get (elements s) (length (elements s) - 1)) IllDefined

-- card(S): how many members there are
abbrev pub card_row : Value → Result Value FaultKind
card_row s = Ok (Int (pos (length (elements s))))

-- union(U): the members of all members
abbrev pub big_union_row : Value → Result Value FaultKind
big_union_row u = set_with (flat_map elements (elements u))

-- x is a member of each of these sets
abbrev pub in_each : List Value → Value → Bool
in_each us x = list_all (λ u. is_among (elements u) x) us

-- the members of the first set that are members of each other; ill-defined where there is no set
abbrev pub common_row : List Value → Result Value FaultKind
common_row [] = Err IllDefined
common_row (u ∷ us) = set_with (filter (in_each us) (elements u))

-- inter(U)
abbrev pub big_inter_row : Value → Result Value FaultKind
big_inter_row u = common_row (elements u)

-- a natural number's own value, and 0 for a negative number
abbrev pub natural_part : ℤ → ℕ
natural_part (pos n) = n
natural_part (negsuc n) = 0

-- how many integers there are from a to b
abbrev pub how_many : ℤ → ℤ → ℕ
how_many a b = natural_part (b +ℤ pos 1 -ℤ a)

-- the integers from a to b, ascending
abbrev pub integers : ℤ → ℤ → List ℤ
integers a b = map (λ k. a +ℤ pos k) (range_with_len 0 (how_many a b))

-- two layers' interval; ill-defined where one is no integer
abbrev pub interval_layer : Value-F Value → Value-F Value → Result Value FaultKind
interval_layer (Value-F.Int a) (Value-F.Int b) = set_with (map Int (integers a b))
interval_layer x y = Err IllDefined

-- a .. b
abbrev pub interval_row : Value → Value → Result Value FaultKind
interval_row a b = interval_layer (out-Value a) (out-Value b)

-- S \/ T
abbrev pub union_row : Value → Value → Result Value FaultKind
union_row s t = set_with (elements s ++ elements t)

-- S /\ T: the members of S that are in T
abbrev pub intersect_row : Value → Value → Result Value FaultKind
intersect_row s t = set_with (filter (λ x. is_among (elements t) x) (elements s))

-- S - T: the members of S that are not in T
abbrev pub difference_row : Value → Value → Result Value FaultKind
difference_row s t = set_with (filter (λ x. not (is_among (elements t) x)) (elements s))

-- each of the first with each of the second
abbrev pub couples : List Value → List Value → List Value
couples xs ys = flat_map (λ x. map (λ y. Pair x y) ys) xs

-- S * T
abbrev pub times_row : Value → Value → Result Value FaultKind
times_row s t = set_with (couples (elements s) (elements t))
