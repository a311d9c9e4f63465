-- Parts that stand for something within the limits.
use Rattle.std.specs.Prelude.{List, Option, Some, None}
use Rattle.std.specs.List.{AllByRecursion}
use Rattle.b_ast.specs.declared.Formula.{Formula}
use Rattle.b_ast.specs.declared.machine.Def.{Def}
use Rattle.b_ast.specs.declared.machine.Operation.{Operation}
use Rattle.b_machine_grammar.specs.declared.trees.Clause.{Clause}
use Rattle.b_machine_grammar.specs.declared.trees.Clause.TheVariants as clause
use Rattle.b_summaries.specs.Sizes.{size_of}
use Rattle.b_substitutions.specs.Limits.{IsSmall, IsWithinLimits}
use Rattle.b_machine_text.specs.Machines.{expanded_predicate}

abbrev pub IsFormulaWithin : Option Formula → Type 0
IsFormulaWithin None = ⊥
IsFormulaWithin (Some e) = IsSmall (size_of e)

pub record IsPredicateWithin (table : List Def) (e : Formula) : Type 0 where
  pub within : IsFormulaWithin (expanded_predicate table e)

pub record ArePredicatesWithin (table : List Def) (es : List Formula) : Type 0 where
  pub all : AllByRecursion (IsPredicateWithin table) es

pub record IsOperationWithin (table : List Def) (o : Operation) : Type 0 where
  pub within : IsWithinLimits table o.body

pub record AreOperationsWithin (table : List Def) (os : List Operation) : Type 0 where
  pub all : AllByRecursion (IsOperationWithin table) os

-- each formula and substitution of a clause
abbrev pub ArePartsWithin : List Def → Clause → Type 0
ArePartsWithin table (clause.Properties at e) = IsPredicateWithin table e
ArePartsWithin table (clause.Invariant at e) = IsPredicateWithin table e
ArePartsWithin table (clause.Assertions at es) = ArePredicatesWithin table es
ArePartsWithin table (clause.Initialisation at u) = IsWithinLimits table u
ArePartsWithin table (clause.Operations at os) = AreOperationsWithin table os
ArePartsWithin table c = Unit {0}

pub record IsClauseWithin (table : List Def) (c : Clause) : Type 0 where
  pub parts : ArePartsWithin table c

pub record AreClausesWithin (table : List Def) (cs : List Clause) : Type 0 where
  pub all : AllByRecursion (IsClauseWithin table) cs
