-- Tests of values: comparisons, and what membership by form asks of a value once its parts are members.
use Rattle.std.specs.Prelude.{ℕ, ℤ, pos, int_le, ◌==◌, Bool, true, false, not, ◌&&◌, ◌||◌, List, [], ◌∷◌, map, length, is_some, if◌then◌else◌}
use Rattle.std.specs.List.{list_all}
use Rattle.std.specs.Ordering.{is_lt, is_le}
use Rattle.ascending.specs.Ascending.{set_of}
use Rattle.b_funsets.specs.Arrows.{first, second}
use Rattle.b_sequences.specs.Sequences.{as_sequence}
use Rattle.b_tree.specs.declared.operators.Comparison.{Comparison}
use Rattle.b_tree.specs.declared.operators.Comparison.TheVariants as comparison
use Rattle.b_tree.specs.declared.operators.Family.{Family}
use Rattle.b_tree.specs.declared.operators.Family.TheVariants as family
use Rattle.b_tree.specs.declared.operators.SetOperator.{SetOperator}
use Rattle.b_tree.specs.declared.operators.SetOperator.TheVariants as sets
use Rattle.b_tree.specs.declared.operators.Word.{Word}
use Rattle.b_tree.specs.declared.operators.Word.TheVariants as word
use Rattle.b_values.specs.Values.{elements, same_value, value_cmp}
use Rattle.b_values.specs.declared.values.Value.{Value, out-Value}
use Rattle.b_values.specs.declared.values.Value.TheOpen.{Value-F}
use Rattle.b_values.specs.declared.values.Value.TheVariants.{Set}
use Rattle.set_making.specs.Making.{is_among}

-- ---- comparisons

-- x stands before y in the order of values, which for integers is that of numbers
abbrev pub is_below : Value → Value → Bool
is_below x y = is_lt (value_cmp x y)

abbrev pub is_at_most : Value → Value → Bool
is_at_most x y = is_le (value_cmp x y)

-- each member of s is one of t
abbrev pub is_part : Value → Value → Bool
is_part s t = list_all (λ x. is_among (elements t) x) (elements s)

abbrev pub is_strict_part : Value → Value → Bool
is_strict_part s t = not (same_value s t) && is_part s t

abbrev pub compare : Comparison → Value → Value → Bool
compare comparison.Equal x y = same_value x y
compare comparison.NotEqual x y = not (same_value x y)
compare comparison.Less x y = is_below x y
compare comparison.LessOrEqual x y = is_at_most x y
compare comparison.Greater x y = is_below y x
compare comparison.GreaterOrEqual x y = is_at_most y x
compare comparison.StrictSubset x y = is_strict_part x y
compare comparison.NotStrictSubset x y = not (is_strict_part x y)

-- ---- words and intervals

-- a number that is at least low
abbrev pub is_number_from : {X : Type 0} → ℤ → Value-F X → Bool
is_number_from low (Value-F.Int n) = int_le low n
is_number_from low x = false

abbrev pub is_in_word : {X : Type 0} → Word → Value-F X → Bool
is_in_word word.Integer (Value-F.Int n) = true
is_in_word word.Natural x = is_number_from (pos 0) x
is_in_word word.Natural1 x = is_number_from (pos 1) x
is_in_word word.String (Value-F.Text s) = true
is_in_word word.Bool (Value-F.Truth b) = true
is_in_word w x = false

-- the value belongs to the set that the word stands for
abbrev pub belongs : Word → Value → Bool
belongs w v = is_in_word w (out-Value v)

abbrev pub is_between : Value → Value → Value → Bool
is_between x y v = is_at_most x v && is_at_most v y

-- ---- relations

-- the set of the first parts of the couples
abbrev pub domain_of : Value → Value
domain_of r = Set (set_of value_cmp (map first (elements r)))

-- the set of the second parts of the couples
abbrev pub range_of : Value → Value
range_of r = Set (set_of value_cmp (map second (elements r)))

-- there are as many first parts as couples
abbrev pub is_functional : Value → Bool
is_functional r = length (elements (domain_of r)) == length (elements r)

-- there are as many second parts as couples
abbrev pub is_one_to_one : Value → Bool
is_one_to_one r = length (elements (range_of r)) == length (elements r)

-- the arrow asks for a function, a domain that is the whole left side, one argument for each image, a range that is
-- the whole right side
abbrev pub functional : SetOperator → Bool
functional sets.Interval = false
functional sets.Product = false
functional sets.Relations = false
functional op = true

abbrev pub total : SetOperator → Bool
total sets.TotalFunctions = true
total sets.TotalInjections = true
total sets.TotalSurjections = true
total sets.TotalBijections = true
total op = false

abbrev pub one_to_one : SetOperator → Bool
one_to_one sets.PartialInjections = true
one_to_one sets.TotalInjections = true
one_to_one sets.TotalBijections = true
one_to_one op = false

abbrev pub onto : SetOperator → Bool
onto sets.PartialSurjections = true
onto sets.TotalSurjections = true
onto sets.TotalBijections = true
onto op = false

-- the relation is functional and one-to-one, as the arrow asks
abbrev pub has_shape : SetOperator → Value → Bool
has_shape op r = (not (functional op) || is_functional r) && (not (one_to_one op) || is_one_to_one r)

-- ---- sets of sets and sequences

abbrev pub is_sequence : Value → Bool
is_sequence v = is_some (as_sequence v)

abbrev pub is_empty : Value → Bool
is_empty v = length (elements v) == 0

-- the family is one of sequences
abbrev pub of_sequences : Family → Bool
of_sequences family.Subsets = false
of_sequences family.NonemptySubsets = false
of_sequences f = true

-- the family leaves out the empty set or sequence
abbrev pub nonempty : Family → Bool
nonempty family.NonemptySubsets = true
nonempty family.NonemptySequences = true
nonempty f = false

-- the family's sequences have no element twice
abbrev pub distinct : Family → Bool
distinct family.InjectiveSequences = true
distinct family.Permutations = true
distinct f = false

-- the family's sequences have all elements
abbrev pub whole : Family → Bool
whole family.Permutations = true
whole f = false

-- a sequence where the family is one of sequences, and not empty where it has nothing empty
abbrev pub may_begin : Family → Value → Bool
may_begin f v = (not (of_sequences f) || is_sequence v) && (not (nonempty f) || not (is_empty v))

-- what is tested of a member: of a sequence's couple the element
abbrev pub part : Family → Value → Value
part f x = if of_sequences f then second x else x

-- one-to-one where the family asks for it
abbrev pub may_end : Family → Value → Bool
may_end f v = not (distinct f) || is_one_to_one v
