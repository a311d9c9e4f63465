-- What the record of a text says in which substitutions stand: what is told of its first definitions as substitutions.
use Rattle.std.specs.Prelude.{◌≡◌, ℕ, if◌then◌else◌, List, length, map, take, Option, Some, None, slice_get, is_some, option_map, option_and_then}
use Rattle.b_ast.specs.declared.Sort.{Sort}
use Rattle.b_ast.specs.declared.Formula.{Formula}
use Rattle.b_ast.specs.declared.machine.Def.{Def}
use Rattle.b_ast.specs.declared.machine.Subst.{Subst}
use Rattle.b_ast.specs.declared.machine.Branch.{Branch}
use Rattle.b_ast.specs.declared.machine.CaseBranch.{CaseBranch}
use Rattle.b_ast.specs.declared.machine.Step.{Step}
use Rattle.b_summaries.specs.declared.summary.Summary.{Summary}
use Rattle.b_summaries.specs.declared.summary.Told.{Told}
use Rattle.b_summaries.specs.Standing as standing
use Rattle.b_summaries.specs.Standing.{means_in}
use Rattle.b_summaries.specs.Summaries.{place_of}
use Rattle.b_substitutions.specs.declared.texts.SubstText.{SubstText}
use Rattle.b_substitutions.specs.Summaries as sums
use Rattle.b_substitutions.specs.Summaries.{Adds, Meanings}

-- what a use of the definition at a place gives as a substitution, which may use those before it
abbrev pub use_in : List Def → ℕ → Option (Option Told)
use_in table i = option_map (λ d. sums.told_body table (sums.known table (take i table)) d.params d.body) (slice_get table i)

-- what is told of the definition at a place is what its meaning tells
unfoldable pub AreTold : List Def → List (Option Told) → Type 0
AreTold table uses = (i : ℕ) (t : Option Told) → slice_get uses i ≡ Some t → use_in table i ≡ Some t

-- what is told of formulas and of substitutions is what the table says, for as many definitions
pub record IsReady (t : SubstText) : Type 0 where
  pub formulas : standing.IsReady t.formulas
  pub told : AreTold t.formulas.table.now t.uses.now
  pub many : length t.formulas.known.now ≡ length t.uses.now

-- what names mean as substitutions
abbrev pub uses_in : SubstText → Meanings
uses_in t = (sums.known t.formulas.table.now (take (length t.uses.now) t.formulas.table.now)).uses

abbrev pub use_at : SubstText → ℕ → Option (Option Told)
use_at t i = use_in t.formulas.table.now i

-- the definition that a name means where it is no parameter
abbrev pub called_in : SubstText → List ℕ → Option (Option Told)
called_in t x = if is_some (place_of t.formulas.params.now x) then None else uses_in t x

-- ---- what parts of a text add

abbrev pub subst_in : SubstText → Subst → Adds
subst_in t = sums.with_subst t.formulas.table.now t.formulas.params.now (means_in t.formulas) (uses_in t)

abbrev pub branch_in : SubstText → Branch → Adds
branch_in t = sums.with_branch t.formulas.table.now t.formulas.params.now (means_in t.formulas) (uses_in t)

abbrev pub case_in : SubstText → CaseBranch → Adds
case_in t = sums.with_case t.formulas.table.now t.formulas.params.now (means_in t.formulas) (uses_in t)

abbrev pub step_in : SubstText → Step → Adds
step_in t = sums.with_step t.formulas.table.now t.formulas.params.now (means_in t.formulas) (uses_in t)

abbrev pub formula_in : SubstText → Sort → Formula → Adds
formula_in t = sums.with_formula t.formulas.table.now t.formulas.params.now (means_in t.formulas) (uses_in t)

abbrev pub expressions_in : SubstText → List Formula → Adds
expressions_in t = sums.with_expressions t.formulas.table.now t.formulas.params.now (means_in t.formulas) (uses_in t)

abbrev pub arguments_in : SubstText → List Formula → Option (List Summary)
arguments_in t = sums.arguments t.formulas.table.now t.formulas.params.now (means_in t.formulas) (uses_in t)
