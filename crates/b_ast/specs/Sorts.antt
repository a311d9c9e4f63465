-- Which trees are expressions and which are predicates, once definitions are expanded.
use Rattle.std.specs.Prelude.{◌≡◌, Bool, true, false, ◌&&◌, List, [], ◌∷◌, Option, Some, None}
use Rattle.b_ast.specs.declared.Sort.{Sort}
use Rattle.b_ast.specs.declared.Sort.TheVariants as sort
use Rattle.b_ast.specs.declared.Operator.{Operator}
use Rattle.b_ast.specs.declared.Operator.TheVariants as operator
use Rattle.b_ast.specs.declared.Function.{Function}
use Rattle.b_ast.specs.declared.Function.TheVariants as function
use Rattle.b_ast.specs.declared.Quantifier.{Quantifier}
use Rattle.b_ast.specs.declared.Quantifier.TheVariants as quantifier
use Rattle.b_ast.specs.declared.Formula.{Formula, fold-Formula}
use Rattle.b_ast.specs.declared.Link.{Link, fold-Link}
use Rattle.b_ast.specs.declared.After.{After, fold-After}
use Rattle.b_ast.specs.declared.After.TheOpen.{Formula-F, Link-F, After-F}

-- the sort of a tree, or none where a part of it has a wrong sort
abbrev pub Sorted : Type 0
Sorted = Option Sort

-- what the operands of an operator are: predicates of connectives, else expressions
abbrev pub operand_sort : Operator → Sort
operand_sort operator.Equivalence = sort.Predicate
operand_sort operator.And = sort.Predicate
operand_sort operator.Or = sort.Predicate
operand_sort operator.Implication = sort.Predicate
operand_sort o = sort.Expression

-- what an operator makes of them: comparisons and connectives make predicates
abbrev pub chain_sort : Operator → Sort
chain_sort operator.Implication = sort.Implication
chain_sort operator.Equivalence = sort.Predicate
chain_sort operator.And = sort.Predicate
chain_sort operator.Or = sort.Predicate
chain_sort operator.Member = sort.Predicate
chain_sort operator.NotMember = sort.Predicate
chain_sort operator.Subset = sort.Predicate
chain_sort operator.NotSubset = sort.Predicate
chain_sort operator.StrictSubset = sort.Predicate
chain_sort operator.NotStrictSubset = sort.Predicate
chain_sort operator.Equal = sort.Predicate
chain_sort operator.NotEqual = sort.Predicate
chain_sort operator.Less = sort.Predicate
chain_sort operator.Greater = sort.Predicate
chain_sort operator.LessOrEqual = sort.Predicate
chain_sort operator.GreaterOrEqual = sort.Predicate
chain_sort o = sort.Expression

-- what the arguments of a function word are
abbrev pub argument_sort : Function → Sort
argument_sort function.Bool = sort.Predicate
argument_sort function.Not = sort.Predicate
argument_sort f = sort.Expression

abbrev pub call_sort : Function → Sort
call_sort function.Not = sort.Predicate
call_sort f = sort.Expression

-- `!` asks for an implication
abbrev pub body_sort : Quantifier → Sort
body_sort quantifier.Exists = sort.Predicate
body_sort quantifier.ForAll = sort.Implication

-- an implication is a predicate too
abbrev pub fits : Sort → Sorted → Bool
fits sort.Expression (Some sort.Expression) = true
fits sort.Predicate (Some sort.Predicate) = true
fits sort.Predicate (Some sort.Implication) = true
fits sort.Implication (Some sort.Implication) = true
fits wanted s = false

abbrev pub all_fit : Sort → List Sorted → Bool
all_fit wanted [] = true
all_fit wanted (s ∷ ss) = fits wanted s && all_fit wanted ss

abbrev pub given : Bool → Sort → Sorted
given true s = Some s
given false s = None

-- an operator and the sort of its right operand
abbrev pub link_fits : Operator × Sorted → Bool
link_fits l = fits (operand_sort l.0) l.1

abbrev pub links_fit : List (Operator × Sorted) → Bool
links_fit [] = true
links_fit (l ∷ ls) = link_fits l && links_fit ls

-- the first operand is what the first operator asks for, and the other operands fit
abbrev pub chain_given : Bool → Sorted → List (Operator × Sorted) → Sorted
chain_given fit s [] = None
chain_given fit s (l ∷ ls) = given (fits (operand_sort l.0) s && fit) (chain_sort l.0)

abbrev pub chain_sorted : Sorted → List (Operator × Sorted) → Sorted
chain_sorted s ls = chain_given (links_fit ls) s ls

-- each form after an operand has an expression in it
abbrev pub all_true : List Bool → Bool
all_true [] = true
all_true (b ∷ bs) = b && all_true bs

abbrev pub after_step : After-F Bool Sorted (Operator × Sorted) → Bool
after_step (After-F.Converse at) = true
after_step (After-F.Apply at e) = fits sort.Expression e
after_step (After-F.Image at e) = fits sort.Expression e

abbrev pub link_step : Link-F Bool Sorted (Operator × Sorted) → Operator × Sorted
link_step l = (l.operator, l.operand)

abbrev pub formula_step : Formula-F Bool Sorted (Operator × Sorted) → Sorted
formula_step (Formula-F.Number at n) = Some sort.Expression
formula_step (Formula-F.Text at x) = Some sort.Expression
formula_step (Formula-F.Name at x) = Some sort.Expression
formula_step (Formula-F.Old at x) = Some sort.Expression
formula_step (Formula-F.Constant at c) = Some sort.Expression
formula_step (Formula-F.Negative at e) = given (fits sort.Expression e) sort.Expression
formula_step (Formula-F.Chain e ls) = chain_sorted e ls
formula_step (Formula-F.Row e fs) = given (fits sort.Expression e && all_true fs) sort.Expression
formula_step (Formula-F.Call at f us) = given (all_fit (argument_sort f) us) (call_sort f)
formula_step (Formula-F.Set at us) = given (all_fit sort.Expression us) sort.Expression
formula_step (Formula-F.Sequence at us) = given (all_fit sort.Expression us) sort.Expression
formula_step (Formula-F.Comprehension at ns p) = given (fits sort.Predicate p) sort.Expression
formula_step (Formula-F.Quantified at q ns p) = given (fits (body_sort q) p) sort.Predicate
formula_step (Formula-F.Collected at c ns p e) = given (fits sort.Predicate p && fits sort.Expression e) sort.Expression
formula_step (Formula-F.If at p e f) = given (fits sort.Predicate p && (fits sort.Expression e && fits sort.Expression f)) sort.Expression

abbrev pub sort_of : Formula → Sorted
sort_of = fold-Formula Bool Sorted (Operator × Sorted) after_step formula_step link_step

abbrev pub link_of : Link → Operator × Sorted
link_of = fold-Link Bool Sorted (Operator × Sorted) after_step formula_step link_step

abbrev pub after_of : After → Bool
after_of = fold-After Bool Sorted (Operator × Sorted) after_step formula_step link_step

-- the tree is an expression, or a predicate
abbrev pub IsExpression : Formula → Type 0
IsExpression t = fits sort.Expression (sort_of t) ≡ true

abbrev pub IsPredicate : Formula → Type 0
IsPredicate t = fits sort.Predicate (sort_of t) ≡ true
