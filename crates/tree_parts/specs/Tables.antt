-- Which operator of resolved trees a sign or a word of a text is.
use Rattle.std.specs.Prelude.{Bool, cond}
use Rattle.b_ast.specs.declared.Operator.{Operator}
use Rattle.b_ast.specs.declared.Operator.TheVariants as operator
use Rattle.b_ast.specs.declared.Function.{Function}
use Rattle.b_ast.specs.declared.Function.TheVariants as function
use Rattle.b_tree.specs.declared.operators.UnaryOperator.TheVariants as unary
use Rattle.b_tree.specs.declared.operators.BinaryOperator.TheVariants as binary
use Rattle.b_tree.specs.declared.operators.Family.TheVariants as family
use Rattle.b_tree.specs.declared.operators.SetOperator.TheVariants as between
use Rattle.b_tree.specs.declared.operators.Comparison.TheVariants as comparison
use Rattle.b_tree.specs.declared.operators.Membership.TheVariants as membership
use Rattle.b_tree.specs.declared.operators.Connective.TheVariants as connective
use Rattle.tree_parts.specs.declared.tables.Joins.{Joins}
use Rattle.tree_parts.specs.declared.tables.Joins.TheVariants as joins
use Rattle.tree_parts.specs.declared.tables.Called.{Called}
use Rattle.tree_parts.specs.declared.tables.Called.TheVariants as called

abbrev pub either : Bool → Joins → Joins → Joins
either set of_sets of_numbers = cond set of_sets of_numbers

-- what an operator is whose whole is a set, or isn't: `*` and `-` alone mean two things
abbrev pub joins_by : Operator → Bool → Joins
joins_by operator.Power set = joins.Power
joins_by operator.Times set = either set (joins.Sides between.Product) (joins.Link binary.Times)
joins_by operator.Minus set = either set (joins.Link binary.Difference) (joins.Link binary.Minus)
joins_by operator.Divide set = joins.Link binary.Divide
joins_by operator.Modulo set = joins.Link binary.Modulo
joins_by operator.Plus set = joins.Link binary.Plus
joins_by operator.Interval set = joins.Sides between.Interval
joins_by operator.Maplet set = joins.Link binary.Couple
joins_by operator.Union set = joins.Link binary.Union
joins_by operator.Intersection set = joins.Link binary.Intersection
joins_by operator.Concatenation set = joins.Link binary.Concatenation
joins_by operator.Prepend set = joins.Link binary.Prepend
joins_by operator.Append set = joins.Link binary.Append
joins_by operator.Take set = joins.Link binary.Take
joins_by operator.Drop set = joins.Link binary.Drop
joins_by operator.DomainRestriction set = joins.Link binary.DomainRestriction
joins_by operator.RangeRestriction set = joins.Link binary.RangeRestriction
joins_by operator.DomainSubtraction set = joins.Link binary.DomainSubtraction
joins_by operator.RangeSubtraction set = joins.Link binary.RangeSubtraction
joins_by operator.Overriding set = joins.Link binary.Overriding
joins_by operator.DirectProduct set = joins.Link binary.DirectProduct
joins_by operator.Relations set = joins.Sides between.Relations
joins_by operator.PartialFunctions set = joins.Sides between.PartialFunctions
joins_by operator.TotalFunctions set = joins.Sides between.TotalFunctions
joins_by operator.PartialInjections set = joins.Sides between.PartialInjections
joins_by operator.TotalInjections set = joins.Sides between.TotalInjections
joins_by operator.PartialSurjections set = joins.Sides between.PartialSurjections
joins_by operator.TotalSurjections set = joins.Sides between.TotalSurjections
joins_by operator.TotalBijections set = joins.Sides between.TotalBijections
joins_by operator.Member set = joins.Tests membership.Member
joins_by operator.NotMember set = joins.Tests membership.NotMember
joins_by operator.Subset set = joins.Tests membership.Subset
joins_by operator.NotSubset set = joins.Tests membership.NotSubset
joins_by operator.StrictSubset set = joins.Compares comparison.StrictSubset
joins_by operator.NotStrictSubset set = joins.Compares comparison.NotStrictSubset
joins_by operator.Equal set = joins.Compares comparison.Equal
joins_by operator.NotEqual set = joins.Compares comparison.NotEqual
joins_by operator.Less set = joins.Compares comparison.Less
joins_by operator.Greater set = joins.Compares comparison.Greater
joins_by operator.LessOrEqual set = joins.Compares comparison.LessOrEqual
joins_by operator.GreaterOrEqual set = joins.Compares comparison.GreaterOrEqual
joins_by operator.Equivalence set = joins.Connects connective.Equivalent
joins_by operator.And set = joins.Connects connective.And
joins_by operator.Or set = joins.Connects connective.Or
joins_by operator.Implication set = joins.Connects connective.Implies
joins_by operator.Composition set = joins.Link binary.Composition
joins_by operator.ParallelProduct set = joins.Link binary.ParallelProduct
joins_by operator.Comma set = joins.Link binary.Couple

-- what a word with arguments is
abbrev pub called_as : Function → Called
called_as function.Pow = called.Over family.Subsets
called_as function.Pow1 = called.Over family.NonemptySubsets
called_as function.Fin = called.Over family.Subsets
called_as function.Fin1 = called.Over family.NonemptySubsets
called_as function.Union = called.One unary.Union
called_as function.Inter = called.One unary.Intersection
called_as function.Dom = called.One unary.Domain
called_as function.Ran = called.One unary.Range
called_as function.Id = called.One unary.Identity
called_as function.Closure = called.One unary.Closure
called_as function.Closure1 = called.One unary.Closure1
called_as function.Card = called.One unary.Cardinality
called_as function.Min = called.One unary.Minimum
called_as function.Max = called.One unary.Maximum
called_as function.Succ = called.One unary.Successor
called_as function.Pred = called.One unary.Predecessor
called_as function.Seq = called.Over family.Sequences
called_as function.Seq1 = called.Over family.NonemptySequences
called_as function.Iseq = called.Over family.InjectiveSequences
called_as function.Perm = called.Over family.Permutations
called_as function.Size = called.One unary.Size
called_as function.First = called.One unary.First
called_as function.Last = called.One unary.Last
called_as function.Front = called.One unary.Front
called_as function.Tail = called.One unary.Tail
called_as function.Rev = called.One unary.Reverse
called_as function.Conc = called.One unary.Concatenation
called_as function.Bool = called.Truth
called_as function.Not = called.Negation
called_as function.Prj1 = called.Two binary.Projection1
called_as function.Prj2 = called.Two binary.Projection2
called_as function.Iterate = called.Two binary.Iterate
