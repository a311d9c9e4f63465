-- The table of the language's forms: which types their parts have, form by form.
use Rattle.std.specs.Prelude.{◌≡◌, ◌⊎◌}
use Rattle.b_values.specs.declared.types.Ty.{Ty}
use Rattle.b_values.specs.declared.types.Ty.TheVariants.{Int, Truth, Text, Pair, Set}
use Rattle.b_ast.specs.declared.Operator.{Operator}
use Rattle.b_ast.specs.declared.Operator.TheVariants as operator
use Rattle.b_ast.specs.declared.Function.{Function}
use Rattle.b_ast.specs.declared.Function.TheVariants as function
use Rattle.b_ast.specs.declared.Constant.{Constant}
use Rattle.b_ast.specs.declared.Constant.TheVariants as constant
use Rattle.type_schemes.specs.declared.rules.Rule.{Rule}
use Rattle.type_schemes.specs.declared.rules.Rule.TheVariants as rule
use Rattle.type_schemes.specs.declared.rules.Reading.{Reading}
use Rattle.type_schemes.specs.declared.rules.Reading.TheVariants as reading

-- the left part (or the one argument) is of type l, the right one of type r, and the whole of type t
abbrev pub Obeys : Rule → Ty → Ty → Ty → Type 0
-- I, I to I
Obeys rule.Arithmetic l r t = (l ≡ Int) × (r ≡ Int) × (t ≡ Int)
-- I, I to P(I)
Obeys rule.Interval l r t = (l ≡ Int) × (r ≡ Int) × (t ≡ Set Int)
-- P(a), P(a) to P(a)
Obeys rule.SameSets l r t = (a : Ty) × (l ≡ Set a) × (r ≡ Set a) × (t ≡ Set a)
-- P(a), P(b) to P(a×b)
Obeys rule.Products l r t = (a b : Ty) × (l ≡ Set a) × (r ≡ Set b) × (t ≡ Set (Pair a b))
-- a, b to a×b
Obeys rule.Couple l r t = t ≡ Pair l r
-- P(I×a), P(I×a) to P(I×a)
Obeys rule.Concatenation l r t = (a : Ty) × (l ≡ Set (Pair Int a)) × (r ≡ Set (Pair Int a)) × (t ≡ Set (Pair Int a))
-- a, P(I×a) to P(I×a)
Obeys rule.Prepend l r t = (r ≡ Set (Pair Int l)) × (t ≡ Set (Pair Int l))
-- P(I×a), a to P(I×a)
Obeys rule.Append l r t = (l ≡ Set (Pair Int r)) × (t ≡ Set (Pair Int r))
-- P(I×a), I to P(I×a)
Obeys rule.Cut l r t = (a : Ty) × (l ≡ Set (Pair Int a)) × (r ≡ Int) × (t ≡ Set (Pair Int a))
-- P(a), P(a×b) to P(a×b)
Obeys rule.DomainPart l r t = (a b : Ty) × (l ≡ Set a) × (r ≡ Set (Pair a b)) × (t ≡ Set (Pair a b))
-- P(a×b), P(b) to P(a×b)
Obeys rule.RangePart l r t = (a b : Ty) × (l ≡ Set (Pair a b)) × (r ≡ Set b) × (t ≡ Set (Pair a b))
-- P(a×b), P(a×b) to P(a×b)
Obeys rule.Overriding l r t = (a b : Ty) × (l ≡ Set (Pair a b)) × (r ≡ Set (Pair a b)) × (t ≡ Set (Pair a b))
-- P(a×b), P(a×c) to P(a×(b×c))
Obeys rule.DirectProduct l r t = (a b c : Ty) × (l ≡ Set (Pair a b)) × (r ≡ Set (Pair a c)) × (t ≡ Set (Pair a (Pair b c)))
-- P(a×c), P(b×d) to P((a×b)×(c×d))
Obeys rule.ParallelProduct l r t = (a b c d : Ty) × (l ≡ Set (Pair a c)) × (r ≡ Set (Pair b d)) × (t ≡ Set (Pair (Pair a b) (Pair c d)))
-- P(a×b), P(b×c) to P(a×c)
Obeys rule.Composition l r t = (a b c : Ty) × (l ≡ Set (Pair a b)) × (r ≡ Set (Pair b c)) × (t ≡ Set (Pair a c))
-- P(a), P(b) to P(P(a×b))
Obeys rule.Relations l r t = (a b : Ty) × (l ≡ Set a) × (r ≡ Set b) × (t ≡ Set (Set (Pair a b)))
-- a, P(a) to B
Obeys rule.Membership l r t = (r ≡ Set l) × (t ≡ Truth)
-- P(a), P(a) to B
Obeys rule.Inclusion l r t = (a : Ty) × (l ≡ Set a) × (r ≡ Set a) × (t ≡ Truth)
-- a, a to B
Obeys rule.Equality l r t = (r ≡ l) × (t ≡ Truth)
-- I, I to B
Obeys rule.NumberOrder l r t = (l ≡ Int) × (r ≡ Int) × (t ≡ Truth)
-- B, B to B
Obeys rule.Connective l r t = (l ≡ Truth) × (r ≡ Truth) × (t ≡ Truth)
-- P(a), P(b) to P((a×b)×a)
Obeys rule.FirstProjection l r t = (a b : Ty) × (l ≡ Set a) × (r ≡ Set b) × (t ≡ Set (Pair (Pair a b) a))
-- P(a), P(b) to P((a×b)×b)
Obeys rule.SecondProjection l r t = (a b : Ty) × (l ≡ Set a) × (r ≡ Set b) × (t ≡ Set (Pair (Pair a b) b))
-- P(a×a), I to P(a×a)
Obeys rule.Iteration l r t = (a : Ty) × (l ≡ Set (Pair a a)) × (r ≡ Int) × (t ≡ Set (Pair a a))
-- P(a×b), a to b
Obeys rule.Application l r t = l ≡ Set (Pair r t)
-- P(a×b), P(a) to P(b)
Obeys rule.Image l r t = (a b : Ty) × (l ≡ Set (Pair a b)) × (r ≡ Set a) × (t ≡ Set b)
-- a, b to P(a×b)
Obeys rule.Collected l r t = t ≡ Set (Pair l r)
-- I to I
Obeys rule.Number l r t = (l ≡ Int) × (t ≡ Int)
-- P(a) to P(P(a))
Obeys rule.Subsets l r t = (a : Ty) × (l ≡ Set a) × (t ≡ Set (Set a))
-- P(P(a)) to P(a)
Obeys rule.Flattened l r t = (a : Ty) × (l ≡ Set (Set a)) × (t ≡ Set a)
-- P(a×b) to P(a)
Obeys rule.Domain l r t = (a b : Ty) × (l ≡ Set (Pair a b)) × (t ≡ Set a)
-- P(a×b) to P(b)
Obeys rule.Range l r t = (a b : Ty) × (l ≡ Set (Pair a b)) × (t ≡ Set b)
-- P(a) to P(a×a)
Obeys rule.Identity l r t = (a : Ty) × (l ≡ Set a) × (t ≡ Set (Pair a a))
-- P(a×a) to P(a×a)
Obeys rule.Closure l r t = (a : Ty) × (l ≡ Set (Pair a a)) × (t ≡ Set (Pair a a))
-- P(a×b) to P(b×a)
Obeys rule.Converse l r t = (a b : Ty) × (l ≡ Set (Pair a b)) × (t ≡ Set (Pair b a))
-- P(a) to I
Obeys rule.Cardinality l r t = (a : Ty) × (l ≡ Set a) × (t ≡ Int)
-- P(I) to I
Obeys rule.Extreme l r t = (l ≡ Set Int) × (t ≡ Int)
-- P(a) to P(P(I×a))
Obeys rule.Sequences l r t = (a : Ty) × (l ≡ Set a) × (t ≡ Set (Set (Pair Int a)))
-- P(I×a) to I
Obeys rule.Length l r t = (a : Ty) × (l ≡ Set (Pair Int a)) × (t ≡ Int)
-- P(I×a) to a
Obeys rule.Element l r t = l ≡ Set (Pair Int t)
-- P(I×a) to P(I×a)
Obeys rule.SameSequence l r t = (a : Ty) × (l ≡ Set (Pair Int a)) × (t ≡ Set (Pair Int a))
-- P(I×P(I×a)) to P(I×a)
Obeys rule.JoinedSequence l r t = (a : Ty) × (l ≡ Set (Pair Int (Set (Pair Int a)))) × (t ≡ Set (Pair Int a))
-- B to B
Obeys rule.Predicate l r t = (l ≡ Truth) × (t ≡ Truth)
-- a to P(a)
Obeys rule.Singleton l r t = t ≡ Set l
-- a to P(I×a)
Obeys rule.SequenceOf l r t = t ≡ Set (Pair Int l)
-- a to a
Obeys rule.Alike l r t = l ≡ t
-- P(a) to P(a)
Obeys rule.SetAlike l r t = (a : Ty) × (l ≡ Set a) × (t ≡ Set a)
-- P(a)
Obeys rule.EmptySet l r t = (a : Ty) × (t ≡ Set a)
-- P(I×a)
Obeys rule.EmptySequence l r t = (a : Ty) × (t ≡ Set (Pair Int a))
-- I
Obeys rule.Integer l r t = t ≡ Int
-- B
Obeys rule.Truth l r t = t ≡ Truth
-- T
Obeys rule.Text l r t = t ≡ Text
-- P(I)
Obeys rule.Integers l r t = t ≡ Set Int
-- P(B)
Obeys rule.Truths l r t = t ≡ Set Truth
-- P(T)
Obeys rule.Texts l r t = t ≡ Set Text

-- the rule of each operator but `-` and `*`, which are arithmetic only where they are of numbers
abbrev pub operator_rule : Operator → Rule
operator_rule operator.Power = rule.Arithmetic
operator_rule operator.Times = rule.Arithmetic
operator_rule operator.Divide = rule.Arithmetic
operator_rule operator.Modulo = rule.Arithmetic
operator_rule operator.Plus = rule.Arithmetic
operator_rule operator.Minus = rule.Arithmetic
operator_rule operator.Interval = rule.Interval
operator_rule operator.Maplet = rule.Couple
operator_rule operator.Union = rule.SameSets
operator_rule operator.Intersection = rule.SameSets
operator_rule operator.Concatenation = rule.Concatenation
operator_rule operator.Prepend = rule.Prepend
operator_rule operator.Append = rule.Append
operator_rule operator.Take = rule.Cut
operator_rule operator.Drop = rule.Cut
operator_rule operator.DomainRestriction = rule.DomainPart
operator_rule operator.RangeRestriction = rule.RangePart
operator_rule operator.DomainSubtraction = rule.DomainPart
operator_rule operator.RangeSubtraction = rule.RangePart
operator_rule operator.Overriding = rule.Overriding
operator_rule operator.DirectProduct = rule.DirectProduct
operator_rule operator.Relations = rule.Relations
operator_rule operator.PartialFunctions = rule.Relations
operator_rule operator.TotalFunctions = rule.Relations
operator_rule operator.PartialInjections = rule.Relations
operator_rule operator.TotalInjections = rule.Relations
operator_rule operator.PartialSurjections = rule.Relations
operator_rule operator.TotalSurjections = rule.Relations
operator_rule operator.TotalBijections = rule.Relations
operator_rule operator.Member = rule.Membership
operator_rule operator.NotMember = rule.Membership
operator_rule operator.Subset = rule.Inclusion
operator_rule operator.NotSubset = rule.Inclusion
operator_rule operator.StrictSubset = rule.Inclusion
operator_rule operator.NotStrictSubset = rule.Inclusion
operator_rule operator.Equal = rule.Equality
operator_rule operator.NotEqual = rule.Equality
operator_rule operator.Less = rule.NumberOrder
operator_rule operator.Greater = rule.NumberOrder
operator_rule operator.LessOrEqual = rule.NumberOrder
operator_rule operator.GreaterOrEqual = rule.NumberOrder
operator_rule operator.Equivalence = rule.Connective
operator_rule operator.And = rule.Connective
operator_rule operator.Or = rule.Connective
operator_rule operator.Implication = rule.Connective
operator_rule operator.Composition = rule.Composition
operator_rule operator.ParallelProduct = rule.ParallelProduct
operator_rule operator.Comma = rule.Couple

-- what an operator is: `-` and `*` are of numbers or of sets
abbrev pub reading_of : Operator → Reading
reading_of operator.Minus = reading.Either rule.Arithmetic rule.SameSets
reading_of operator.Times = reading.Either rule.Arithmetic rule.Products
reading_of o = reading.One (operator_rule o)

-- the types of an operator's operands and of the whole
abbrev pub ObeysOne : Reading → Ty → Ty → Ty → Type 0
ObeysOne (reading.One q) l r t = Obeys q l r t
ObeysOne (reading.Either p q) l r t = Obeys p l r t ⊎ Obeys q l r t

-- the rule of a function word
abbrev pub function_rule : Function → Rule
function_rule function.Pow = rule.Subsets
function_rule function.Pow1 = rule.Subsets
function_rule function.Fin = rule.Subsets
function_rule function.Fin1 = rule.Subsets
function_rule function.Union = rule.Flattened
function_rule function.Inter = rule.Flattened
function_rule function.Dom = rule.Domain
function_rule function.Ran = rule.Range
function_rule function.Id = rule.Identity
function_rule function.Closure = rule.Closure
function_rule function.Closure1 = rule.Closure
function_rule function.Card = rule.Cardinality
function_rule function.Min = rule.Extreme
function_rule function.Max = rule.Extreme
function_rule function.Succ = rule.Number
function_rule function.Pred = rule.Number
function_rule function.Seq = rule.Sequences
function_rule function.Seq1 = rule.Sequences
function_rule function.Iseq = rule.Sequences
function_rule function.Perm = rule.Sequences
function_rule function.Size = rule.Length
function_rule function.First = rule.Element
function_rule function.Last = rule.Element
function_rule function.Front = rule.SameSequence
function_rule function.Tail = rule.SameSequence
function_rule function.Rev = rule.SameSequence
function_rule function.Conc = rule.JoinedSequence
function_rule function.Bool = rule.Predicate
function_rule function.Not = rule.Predicate
function_rule function.Prj1 = rule.FirstProjection
function_rule function.Prj2 = rule.SecondProjection
function_rule function.Iterate = rule.Iteration

-- the rule of a constant word
abbrev pub constant_rule : Constant → Rule
constant_rule constant.Integer = rule.Integers
constant_rule constant.Natural = rule.Integers
constant_rule constant.Natural1 = rule.Integers
constant_rule constant.Int = rule.Integers
constant_rule constant.Nat = rule.Integers
constant_rule constant.Nat1 = rule.Integers
constant_rule constant.String = rule.Texts
constant_rule constant.Bool = rule.Truths
constant_rule constant.True = rule.Truth
constant_rule constant.False = rule.Truth
constant_rule constant.MinInt = rule.Integer
constant_rule constant.MaxInt = rule.Integer
