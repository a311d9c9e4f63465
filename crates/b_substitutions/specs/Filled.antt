-- What the records of a text say where substitutions are put in.
use Rattle.std.specs.Prelude.{◌≡◌, ℕ, List, map, take, Option, None, slice_get, option_map}
use Rattle.b_ast.specs.declared.Formula.{Formula}
use Rattle.b_ast.specs.declared.machine.Def.{Def}
use Rattle.b_ast.specs.declared.machine.DefBody.{DefBody}
use Rattle.b_ast.specs.declared.machine.Subst.{Subst}
use Rattle.b_ast.specs.declared.machine.Branch.{Branch}
use Rattle.b_ast.specs.declared.machine.CaseBranch.{CaseBranch}
use Rattle.b_ast.specs.declared.machine.Step.{Step}
use Rattle.b_expand.specs.declared.standing.Arguments.{Arguments}
use Rattle.b_expand.specs.declared.standing.Standing.{Standing}
use Rattle.b_expand.specs.Places.{brackets}
use Rattle.b_expand.specs.Filling as formulas
use Rattle.b_expand.specs.Standing.{means_in, params_in, scope_of, parts_in}
use Rattle.b_substitutions.specs.Filling as spec
use Rattle.b_substitutions.specs.Filling.{Insert, Inserts, Fills}

-- what names mean as substitutions in a text: one of the definitions before it
abbrev pub uses_in : Standing → Inserts
uses_in t = (spec.known (take t.here.place t.table.defs.now)).uses

-- the definition at a place, which may use those before it
abbrev pub use_of_first : List Def → ℕ → Option Insert
use_of_first ds i = option_map (λ d. spec.insert_of (formulas.inserts (take i ds)) (spec.known (take i ds)).uses d.params d.body) (slice_get ds i)

abbrev pub use_at : Standing → ℕ → Option Insert
use_at t i = use_of_first t.table.defs.now i

-- the definition that a name means where it is no parameter
abbrev pub called_in : Standing → List ℕ → Option Insert
called_in t x = spec.called (uses_in t) (params_in t) x

-- ---- substitutions

abbrev pub subst_in : Standing → Subst → Subst
subst_in t u = spec.filled_subst (means_in t) (uses_in t) u (scope_of t)

abbrev pub substs_in : Standing → List Subst → List Subst
substs_in t us = spec.all_at (map (spec.filled_subst (means_in t) (uses_in t)) us) (scope_of t)

abbrev pub branch_in : Standing → Branch → Branch
branch_in t b = spec.filled_branch (means_in t) (uses_in t) b (scope_of t)

abbrev pub branches_in : Standing → List Branch → List Branch
branches_in t bs = spec.all_at (map (spec.filled_branch (means_in t) (uses_in t)) bs) (scope_of t)

abbrev pub case_in : Standing → CaseBranch → CaseBranch
case_in t b = spec.filled_case (means_in t) (uses_in t) b (scope_of t)

abbrev pub cases_in : Standing → List CaseBranch → List CaseBranch
cases_in t bs = spec.all_at (map (spec.filled_case (means_in t) (uses_in t)) bs) (scope_of t)

abbrev pub step_in : Standing → Step → Step
step_in t k = spec.filled_step (means_in t) (uses_in t) k (scope_of t)

abbrev pub steps_in : Standing → List Step → List Step
steps_in t ks = spec.all_at (map (spec.filled_step (means_in t) (uses_in t)) ks) (scope_of t)

abbrev pub formula_in : Standing → Formula → Formula
formula_in t e = spec.formula (means_in t) (uses_in t) (scope_of t) e

abbrev pub formulas_in : Standing → List Formula → List Formula
formulas_in t es = spec.all_formulas (means_in t) (uses_in t) (scope_of t) es

abbrev pub round_in : Standing → ℕ → ℕ
round_in t depth = brackets (brackets t.here.round depth) 1

-- a use with its arguments
abbrev pub used_by : Standing → ℕ → Option Insert → Arguments → Subst
used_by t depth m a = spec.used depth m (scope_of t) (formulas.trees_of (parts_in (means_in t) a) (scope_of t))

abbrev pub body_in : Standing → DefBody → Subst
body_in t b = (spec.insert_of (means_in t) (uses_in t) (params_in t) b).body (scope_of t)

-- ---- steps

abbrev pub steps_of : Standing → Subst → ℕ
steps_of t u = spec.steps_of (uses_in t) u

abbrev pub total : Standing → List Subst → ℕ
total t us = spec.total (map (steps_of t) us)

abbrev pub steps_of_branch : Standing → Branch → ℕ
steps_of_branch t b = spec.steps_of_branch (uses_in t) b

abbrev pub total_of_branches : Standing → List Branch → ℕ
total_of_branches t bs = spec.total (map (steps_of_branch t) bs)

abbrev pub steps_of_case : Standing → CaseBranch → ℕ
steps_of_case t b = spec.steps_of_case (uses_in t) b

abbrev pub total_of_cases : Standing → List CaseBranch → ℕ
total_of_cases t bs = spec.total (map (steps_of_case t) bs)

abbrev pub steps_of_step : Standing → Step → ℕ
steps_of_step t k = spec.steps_of_step (uses_in t) k

abbrev pub total_of_steps : Standing → List Step → ℕ
total_of_steps t ks = spec.total (map (steps_of_step t) ks)

abbrev pub steps_of_body : Standing → DefBody → ℕ
steps_of_body t b = (spec.insert_of (means_in t) (uses_in t) (params_in t) b).steps

-- without brackets that are added to all places
abbrev pub IsLevel : Standing → Type 0
IsLevel t = t.extra ≡ None
