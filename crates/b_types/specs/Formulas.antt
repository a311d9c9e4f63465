-- What a formula demands of the types of its parts, beside a machine's face. The parts of sets and of their elements come first,
-- then constants, variables and parameters, as far as the formula knows them; behind these come its own.
use Rattle.std.specs.Prelude.{◌<◌, List, [], ◌++◌, length, Option, Some, None, slice_get, Result}
use Rattle.b_ast.specs.declared.FormulaText.{FormulaText}
use Rattle.b_ast.specs.declared.FormulaText.TheVariants as text
use Rattle.b_values.specs.declared.types.NameFace.{NameFace}
use Rattle.b_values.specs.declared.types.OpFace.{OpFace}
use Rattle.b_values.specs.declared.types.OpId.TheVariants as op
use Rattle.b_values.specs.declared.types.Face.{Face}
use Rattle.type_demands.specs.Scopes as scopes
use Rattle.type_substs.specs.Told.{Told, Tells, told, with_formula, with_predicate}
use Rattle.type_names.specs.Faces.{scope_beside}
use Rattle.b_types.specs.Typings as typings
use Rattle.b_types.specs.Known.{known_sets}
use Rattle.b_types.specs.declared.formulas.Scope.{Scope}
use Rattle.b_types.specs.declared.formulas.Scope.TheVariants as at
use Rattle.b_types.specs.declared.answers.Typing.{Typing}
use Rattle.b_types.specs.declared.answers.CheckFault.{CheckFault}

-- the variables that a formula of a scope knows: none beside the constants alone
abbrev pub variables_known : Face → Scope → List NameFace
variables_known f (at.Op op.Setup) = []
variables_known f s = f.variables

-- the parameters of an operation
abbrev pub params_of : Option OpFace → List NameFace
params_of None = []
params_of (Some o) = o.params

abbrev pub params_known : Face → Scope → List NameFace
params_known f (at.Op (op.Op n)) = params_of (slice_get f.ops n)
params_known f s = []

-- the machine has the operation of the scope
abbrev pub HasScope : Face → Scope → Type 0
HasScope f (at.Op (op.Op n)) = n < length f.ops
HasScope f s = Unit {0}

-- what names mean
abbrev pub scope_of : Face → Scope → scopes.Scope
scope_of f s = scope_beside f f.constants (variables_known f s) (params_known f s)

abbrev pub formula_known : Face → Scope → List NameFace
formula_known f s = known_sets (length f.sets) ++ f.constants ++ variables_known f s ++ params_known f s

-- a predicate is a formula of truth values
abbrev pub with_text : FormulaText → Tells
with_text (text.Expr e) scope z = with_formula e.formula scope z
with_text (text.Pred p) scope z = with_predicate p.formula scope z

abbrev pub formula_told : Face → Scope → FormulaText → Told
formula_told f s e = with_text e (scope_of f s) (told [] (length (formula_known f s)))

abbrev pub IsTypedFormula : Face → Scope → FormulaText → Result Typing CheckFault → Type 0
IsTypedFormula f s e r = typings.IsChecked (formula_known f s) (formula_told f s e) r
