-- What is made of answers. Only private functions' clauses cite this.
use Rattle.std.specs.Prelude.{◌≡◌, List, [], Option, Some, Result, Ok, Err}
use Rattle.b_ast.specs.declared.Place.{Place}
use Rattle.b_ast.specs.declared.Bound.{Bound}
use Rattle.b_ast.specs.declared.Formula.{Formula}
use Rattle.b_ast.specs.declared.machine.Subst.{Subst}
use Rattle.b_ast.specs.declared.machine.SetDecl.{SetDecl}
use Rattle.b_ast.specs.declared.machine.Operation.{Operation}
use Rattle.b_machine_grammar.specs.declared.trees.BodyText.{BodyText}
use Rattle.b_machine_grammar.specs.declared.trees.BodyText.TheVariants as body
use Rattle.b_machine_grammar.specs.declared.trees.DefText.{DefText}
use Rattle.b_machine_grammar.specs.declared.trees.Clause.{Clause}
use Rattle.b_machine_grammar.specs.declared.trees.Clause.TheVariants as clause
use Rattle.b_machine_grammar.specs.Grammar as grammar
use Rattle.b_stretches.specs.declared.Unread.{Unread}
use Rattle.b_stretches.specs.declared.Unread.TheVariants as unread
use Rattle.b_stretches.specs.Stretches.{IsNoMachine}

abbrev pub some : List Bound → Option (List Bound)
some bs = Some bs

abbrev pub without_results : (Bound × List Bound) × Subst → Operation
without_results x = grammar.operation [] x

abbrev pub operation : List Bound × ((Bound × List Bound) × Subst) → Operation
operation x = grammar.operation x.0 x.1

-- ---- bodies of definitions

abbrev pub IsNothing : Result BodyText Unread → Type 0
IsNothing (Ok x) = ⊥
IsNothing (Err e) = IsNoMachine e

-- the body of a text that reads as this formula
abbrev pub IsWithFormula : Formula → Result Subst Unread → Result BodyText Unread → Type 0
IsWithFormula t (Ok u) r = r ≡ Ok (body.Either t u)
IsWithFormula t (Err (unread.NoMachine at)) r = r ≡ Ok (body.Formula t)
IsWithFormula t (Err unread.Memory) r = r ≡ Err unread.Memory

-- the body of a text that reads as no formula
abbrev pub IsWithoutFormula : Result Subst Unread → Result BodyText Unread → Type 0
IsWithoutFormula (Ok u) r = r ≡ Ok (body.Subst u)
IsWithoutFormula (Err (unread.NoMachine at)) r = IsNothing r
IsWithoutFormula (Err unread.Memory) r = r ≡ Err unread.Memory

-- ---- clauses

abbrev pub sets : Place → List SetDecl → Clause
sets p x = clause.Sets p x

abbrev pub constants : Place → List Bound → Clause
constants p x = clause.Constants p x

abbrev pub abstract_constants : Place → List Bound → Clause
abstract_constants p x = clause.AbstractConstants p x

abbrev pub properties : Place → Formula → Clause
properties p x = clause.Properties p x

abbrev pub variables : Place → List Bound → Clause
variables p x = clause.Variables p x

abbrev pub concrete_variables : Place → List Bound → Clause
concrete_variables p x = clause.ConcreteVariables p x

abbrev pub invariant : Place → Formula → Clause
invariant p x = clause.Invariant p x

abbrev pub assertions : Place → List Formula → Clause
assertions p x = clause.Assertions p x

abbrev pub definitions : Place → List DefText → Clause
definitions p x = clause.Definitions p x

abbrev pub initialisation : Place → Subst → Clause
initialisation p x = clause.Initialisation p x

abbrev pub operations : Place → List Operation → Clause
operations p x = clause.Operations p x
