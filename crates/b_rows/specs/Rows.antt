-- The rows of the operators: a value, or the fault of the row.
use Rattle.std.specs.Prelude.{ℕ, ℤ, pos, true, false, List, [], ◌∷◌, map, Result, Ok, Err}
use Rattle.std.specs.List.{flat_map, range_with_len}
use Rattle.b_arith.specs.Rows.{sum_of, difference_of, product_of, negation_of, quotient_of, remainder_of, power_of}
use Rattle.b_funsets.specs.Arrangements.{iseq_row, perm_row}
use Rattle.b_funsets.specs.Arrows.{partial_row, partial_inj_row, partial_surj_row, total_row, total_inj_row, total_surj_row, bijections_row}
use Rattle.b_funsets.specs.Families.{pow_row, pow1_row, relations_row, seq_row, seq1_row}
use Rattle.b_relations.specs.Relations.{dom_row, ran_row, converse_row, identity_row, image_row, dom_restrict_row, dom_subtract_row, ran_restrict_row, ran_subtract_row, overwrite_row, compose_row, direct_row, parallel_row, prj1_row, prj2_row, apply_row, iterate_row, closure_row, closure1_row}
use Rattle.b_sequences.specs.Rows.{size_row, rev_row, first_row, last_row, front_row, tail_row, concat_row, prepend_row, append_row, take_row, drop_first_row, conc_row}
use Rattle.b_sets.specs.Rows.{min_row, max_row, card_row, big_union_row, big_inter_row, common_row, interval_row, union_row, intersect_row, difference_row, times_row}
use Rattle.b_tree.specs.declared.operators.BinaryOperator.{BinaryOperator}
use Rattle.b_tree.specs.declared.operators.BinaryOperator.TheVariants as binary
use Rattle.b_tree.specs.declared.operators.Collector.{Collector}
use Rattle.b_tree.specs.declared.operators.Collector.TheVariants as collector
use Rattle.b_tree.specs.declared.operators.Family.{Family}
use Rattle.b_tree.specs.declared.operators.Family.TheVariants as family
use Rattle.b_tree.specs.declared.operators.SetOperator.{SetOperator}
use Rattle.b_tree.specs.declared.operators.SetOperator.TheVariants as sets
use Rattle.b_tree.specs.declared.operators.UnaryOperator.{UnaryOperator}
use Rattle.b_tree.specs.declared.operators.UnaryOperator.TheVariants as unary
use Rattle.b_tree.specs.declared.operators.Word.{Word}
use Rattle.b_tree.specs.declared.operators.Word.TheVariants as word
use Rattle.b_values.specs.Reading.{numbered}
use Rattle.b_values.specs.Values.{elements, limited}
use Rattle.b_values.specs.declared.values.FaultKind.{FaultKind}
use Rattle.b_values.specs.declared.values.FaultKind.TheVariants.{IllDefined, TooLarge}
use Rattle.b_values.specs.declared.values.Value.{Value, out-Value}
use Rattle.b_values.specs.declared.values.Value.TheOpen.{Value-F}
use Rattle.b_values.specs.declared.values.Value.TheVariants.{Int, Truth, Elem, Pair}
use Rattle.set_making.specs.Making.{set_with}
use Rattle.b_rows.specs.Answers.{bind}

-- ---- numbers

-- the number in a value; a value of another kind doesn't come where the types are right
abbrev pub number_in : {X : Type 0} → Value-F X → Result ℤ FaultKind
number_in (Value-F.Int n) = Ok n
number_in x = Err IllDefined

abbrev pub number_of : Value → Result ℤ FaultKind
number_of v = number_in (out-Value v)

abbrev pub an_integer : Result ℤ FaultKind → Result Value FaultKind
an_integer r = bind r (λ n. Ok (Int n))

-- an operator on numbers
abbrev pub on_number : (ℤ → Result ℤ FaultKind) → Value → Result Value FaultKind
on_number f x = bind (number_of x) (λ m. an_integer (f m))

abbrev pub on_numbers : (ℤ → ℤ → Result ℤ FaultKind) → Value → Value → Result Value FaultKind
on_numbers f x y = bind (number_of x) (λ m. bind (number_of y) (λ n. an_integer (f m n)))

-- ---- operators of one operand

abbrev pub unary_row : UnaryOperator → Value → Result Value FaultKind
unary_row unary.Negative x = on_number negation_of x
unary_row unary.Successor x = on_number (λ n. sum_of n (pos 1)) x
unary_row unary.Predecessor x = on_number (λ n. difference_of n (pos 1)) x
unary_row unary.Minimum x = min_row x
unary_row unary.Maximum x = max_row x
unary_row unary.Cardinality x = card_row x
unary_row unary.Union x = big_union_row x
unary_row unary.Intersection x = big_inter_row x
unary_row unary.Domain x = dom_row x
unary_row unary.Range x = ran_row x
unary_row unary.Converse x = converse_row x
unary_row unary.Identity x = identity_row x
unary_row unary.Closure x = closure_row x
unary_row unary.Closure1 x = closure1_row x
unary_row unary.Size x = size_row x
unary_row unary.Reverse x = rev_row x
unary_row unary.First x = first_row x
unary_row unary.Last x = last_row x
unary_row unary.Front x = front_row x
unary_row unary.Tail x = tail_row x
unary_row unary.Concatenation x = conc_row x

-- ---- operators of two operands

abbrev pub binary_row : BinaryOperator → Value → Value → Result Value FaultKind
binary_row binary.Times x y = on_numbers product_of x y
binary_row binary.Divide x y = on_numbers quotient_of x y
binary_row binary.Modulo x y = on_numbers remainder_of x y
binary_row binary.Plus x y = on_numbers sum_of x y
binary_row binary.Minus x y = on_numbers difference_of x y
binary_row binary.Couple x y = limited (Pair x y)
binary_row binary.Union x y = union_row x y
binary_row binary.Intersection x y = intersect_row x y
binary_row binary.Difference x y = difference_row x y
binary_row binary.Concatenation x y = concat_row x y
binary_row binary.Prepend x y = prepend_row x y
binary_row binary.Append x y = append_row x y
binary_row binary.Take x y = take_row x y
binary_row binary.Drop x y = drop_first_row x y
binary_row binary.DomainRestriction x y = dom_restrict_row x y
binary_row binary.RangeRestriction x y = ran_restrict_row x y
binary_row binary.DomainSubtraction x y = dom_subtract_row x y
binary_row binary.RangeSubtraction x y = ran_subtract_row x y
binary_row binary.Overriding x y = overwrite_row x y
binary_row binary.DirectProduct x y = direct_row x y
binary_row binary.Composition x y = compose_row x y
binary_row binary.ParallelProduct x y = parallel_row x y
binary_row binary.Projection1 x y = prj1_row x y
binary_row binary.Projection2 x y = prj2_row x y
binary_row binary.Iterate x y = iterate_row x y
binary_row binary.Apply x y = apply_row x y
binary_row binary.Image x y = image_row x y

-- x ** y
abbrev pub power_row : Value → Value → Result Value FaultKind
power_row x y = on_numbers power_of x y

-- ---- sets

abbrev pub family_row : Family → Value → Result Value FaultKind
family_row family.Subsets s = pow_row s
family_row family.NonemptySubsets s = pow1_row s
family_row family.Sequences s = seq_row s
family_row family.NonemptySequences s = seq1_row s
family_row family.InjectiveSequences s = iseq_row s
family_row family.Permutations s = perm_row s

abbrev pub set_row : SetOperator → Value → Value → Result Value FaultKind
set_row sets.Interval x y = interval_row x y
set_row sets.Product x y = times_row x y
set_row sets.Relations x y = relations_row x y
set_row sets.PartialFunctions x y = partial_row x y
set_row sets.TotalFunctions x y = total_row x y
set_row sets.PartialInjections x y = partial_inj_row x y
set_row sets.TotalInjections x y = total_inj_row x y
set_row sets.PartialSurjections x y = partial_surj_row x y
set_row sets.TotalSurjections x y = total_surj_row x y
set_row sets.TotalBijections x y = bijections_row x y

-- a set that is infinite has no value
abbrev pub word_row : Word → Result Value FaultKind
word_row word.Integer = Err TooLarge
word_row word.Natural = Err TooLarge
word_row word.Natural1 = Err TooLarge
word_row word.String = Err TooLarge
word_row word.Bool = set_with (Truth false ∷ Truth true ∷ [])

-- the elements of a set of the machine
abbrev pub given_row : ℕ → ℕ → Result Value FaultKind
given_row set size = set_with (map (λ i. Elem set i) (range_with_len 0 size))

-- the sequence of these values
abbrev pub sequence_row : List Value → Result Value FaultKind
sequence_row xs = set_with (numbered 1 xs)

-- ---- what is made of the values at tuples

-- the members of all these sets
abbrev pub union_of : List Value → Result Value FaultKind
union_of sets = set_with (flat_map elements sets)

-- the values at the tuples, of a lambda the couples; SIGMA and PI have theirs by partial results
abbrev pub collector_row : Collector → List Value → Result Value FaultKind
collector_row collector.Union vs = union_of vs
collector_row collector.Intersection vs = common_row vs
collector_row c vs = set_with vs

-- a sum or a product with one more value; what isn't one doesn't come
abbrev pub partial_result : Collector → Value → Value → Result Value FaultKind
partial_result collector.Product x y = on_numbers product_of x y
partial_result c x y = on_numbers sum_of x y

-- the sum or the product of nothing
abbrev pub first_result : Collector → Value
first_result collector.Product = Int (pos 1)
first_result c = Int (pos 0)
