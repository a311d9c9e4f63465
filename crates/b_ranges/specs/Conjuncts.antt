-- The conjuncts of a binder's predicate, and what each says of a variable that stands alone on one side.
use Rattle.std.specs.Prelude.{ℕ, ◌-◌, nat_lt, nat_le, if◌then◌else◌, List, [], ◌∷◌, ◌++◌, Option, Some, None}
use Rattle.b_ranges.specs.declared.conjuncts.Conjunct.{Conjunct}
use Rattle.b_ranges.specs.declared.conjuncts.Help.{Help}
use Rattle.b_ranges.specs.declared.conjuncts.Relation.{Relation}
use Rattle.b_ranges.specs.declared.conjuncts.Relation.TheVariants as relation
use Rattle.b_ranges.specs.declared.sides.Slots.{Slots}
use Rattle.b_ranges.specs.Sides.{side_of}
use Rattle.b_tree.specs.declared.Binder.{Binder}
use Rattle.b_tree.specs.declared.Clause.{Clause, out-Clause, fold-Clause}
use Rattle.b_tree.specs.declared.Collection.{Collection}
use Rattle.b_tree.specs.declared.ExprTree.{ExprTree, out-ExprTree}
use Rattle.b_tree.specs.declared.ExprTree.TheOpen.{ExprTree-F, Link-F, Plan-F, PredTree-F, Binder-F, Clause-F, Collection-F, Power-F, Sides-F, Universal-F, Variable-F}
use Rattle.b_tree.specs.declared.Link.{Link}
use Rattle.b_tree.specs.declared.Plan.{Plan}
use Rattle.b_tree.specs.declared.Power.{Power}
use Rattle.b_tree.specs.declared.PredTree.{PredTree, out-PredTree, fold-PredTree}
use Rattle.b_tree.specs.declared.Sides.{Sides}
use Rattle.b_tree.specs.declared.Universal.{Universal}
use Rattle.b_tree.specs.declared.Variable.{Variable}
use Rattle.b_tree.specs.declared.operators.Comparison.{Comparison}
use Rattle.b_tree.specs.declared.operators.Comparison.TheVariants as comparison
use Rattle.b_tree.specs.declared.operators.Connective.{Connective}
use Rattle.b_tree.specs.declared.operators.Connective.TheVariants as connective
use Rattle.b_tree.specs.declared.operators.Membership.{Membership}
use Rattle.b_tree.specs.declared.operators.Membership.TheVariants as membership

-- a tree's uppermost layer
abbrev pub ExprLayer : Type 0
ExprLayer = ExprTree-F ExprTree Link Plan PredTree Binder Clause Collection Power Sides Universal Variable

abbrev pub PredLayer : Type 0
PredLayer = PredTree-F ExprTree Link Plan PredTree Binder Clause Collection Power Sides Universal Variable

-- ---- one conjunct

-- which of the binder's variables a slot is
abbrev pub variable_at : Slots → ℕ → Option ℕ
variable_at s i = if nat_lt i s.base then None else if nat_lt (i - s.base) s.count then Some (i - s.base) else None

abbrev pub variable_by : Slots → ExprLayer → Option ℕ
variable_by s (ExprTree-F.Slot i) = variable_at s i
variable_by s e = None

-- the variable that an expression is
abbrev pub variable_in : Slots → ExprTree → Option ℕ
variable_in s e = variable_by s (out-ExprTree e)

-- what `x op E` says of x
abbrev pub relation_of : Comparison → Option Relation
relation_of comparison.Equal = Some relation.Equal
relation_of comparison.Less = Some relation.Less
relation_of comparison.LessOrEqual = Some relation.LessOrEqual
relation_of comparison.Greater = Some relation.Greater
relation_of comparison.GreaterOrEqual = Some relation.GreaterOrEqual
relation_of comparison.StrictSubset = Some relation.Subset
relation_of op = None

-- what `E op x` says of x
abbrev pub exchanged : Comparison → Option Relation
exchanged comparison.Equal = Some relation.Equal
exchanged comparison.Less = Some relation.Greater
exchanged comparison.LessOrEqual = Some relation.GreaterOrEqual
exchanged comparison.Greater = Some relation.Less
exchanged comparison.GreaterOrEqual = Some relation.LessOrEqual
exchanged op = None

-- what `x : E` and `x <: E` say of x
abbrev pub relation_in : Membership → Option Relation
relation_in membership.Member = Some relation.Member
relation_in membership.Subset = Some relation.Subset
relation_in op = None

-- a variable is helped where the other side names none of the binder's but earlier ones
abbrev pub helped : Slots → Relation → ℕ → ExprTree → Option Help
helped s r v e = if nat_le (side_of s e).needs v then Some (record { variable = v; relation = r; by = e; side = side_of s e }) else None

abbrev pub help_by : Slots → Relation → Option ℕ → ExprTree → Option Help
help_by s r None e = None
help_by s r (Some v) e = helped s r v e

-- what a conjunct with x on one side and e on the other says of x
abbrev pub said_of : Slots → Option Relation → ExprTree → ExprTree → Option Help
said_of s None x e = None
said_of s (Some r) x e = help_by s r (variable_in s x) e

-- a conjunct that helps no variable
abbrev pub helpless : Conjunct
helpless = record { left = None; right = None }

abbrev pub compared : Slots → Comparison → ExprTree → ExprTree → Conjunct
compared s op a b = record { left = said_of s (relation_of op) a b; right = said_of s (exchanged op) b a }

abbrev pub tested : Slots → Membership → ExprTree → ExprTree → Conjunct
tested s op a b = record { left = said_of s (relation_in op) a b; right = None }

abbrev pub conjunct_by : Slots → PredLayer → Conjunct
conjunct_by s (PredTree-F.Compare op a b) = compared s op a b
conjunct_by s (PredTree-F.Member op a b) = tested s op a b
conjunct_by s p = helpless

-- ---- the conjuncts of a predicate

-- those of a predicate, and those of a row when one more clause stands behind it
abbrev pub Reader : Type 0
Reader = PredTree → List Conjunct

abbrev pub Joining : Type 0
Joining = Clause → List Conjunct → List Conjunct

-- `&` adds the conjuncts of its right side; what another connective joins is one conjunct
abbrev pub joined : Connective → List Conjunct → List Conjunct → List Conjunct
joined connective.And more so_far = so_far ++ more
joined c more so_far = helpless ∷ []

-- connectives group from the left
abbrev pub each_joined : List Joining → List Clause → List Conjunct → List Conjunct
each_joined (j ∷ js) (c ∷ cs) so_far = each_joined js cs (j c so_far)
each_joined js cs so_far = so_far

abbrev pub in_chain : Reader → List Joining → PredLayer → List Conjunct
in_chain first js (PredTree-F.PredTree::Chain p cs) = each_joined js cs (first p)
in_chain first js p = []

module _ (slots : Slots) where
  abbrev pub pred_step : PredTree-F (Unit {0}) (Unit {0}) (Unit {0}) Reader (Unit {0}) Joining (Unit {0}) (Unit {0}) (Unit {0}) (Unit {0}) (Unit {0}) → Reader
  pred_step PredTree-F.True p = []
  pred_step (PredTree-F.PredTree::Chain first js) p = in_chain first js (out-PredTree p)
  pred_step other p = conjunct_by slots (out-PredTree p) ∷ []

  abbrev pub clause_step : Clause-F (Unit {0}) (Unit {0}) (Unit {0}) Reader (Unit {0}) Joining (Unit {0}) (Unit {0}) (Unit {0}) (Unit {0}) (Unit {0}) → Joining
  clause_step c clause so_far = joined c.connective (c.predicate (out-Clause clause).predicate) so_far

  abbrev pub reading : PredTree → Reader
  reading = fold-PredTree (Unit {0}) (Unit {0}) (Unit {0}) Reader (Unit {0}) Joining (Unit {0}) (Unit {0}) (Unit {0}) (Unit {0}) (Unit {0}) (λ e. tt) (λ e. tt) (λ e. tt) pred_step (λ e. tt) clause_step (λ e. tt) (λ e. tt) (λ e. tt) (λ e. tt) (λ e. tt)

  abbrev pub clause_reading : Clause → Joining
  clause_reading = fold-Clause (Unit {0}) (Unit {0}) (Unit {0}) Reader (Unit {0}) Joining (Unit {0}) (Unit {0}) (Unit {0}) (Unit {0}) (Unit {0}) (λ e. tt) (λ e. tt) (λ e. tt) pred_step (λ e. tt) clause_step (λ e. tt) (λ e. tt) (λ e. tt) (λ e. tt) (λ e. tt)

  -- the conjuncts of the `&` tree, left to right
  abbrev pub conjuncts_of : PredTree → List Conjunct
  conjuncts_of p = reading p p
