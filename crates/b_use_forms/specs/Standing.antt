-- What the record of a text says: its table, what is told of the table's definitions, and the parameters of the text.
use Rattle.std.specs.Prelude.{◌≡◌, ℕ, Bool, List, Option, length, map}
use Rattle.b_ast.specs.declared.Formula.{Formula}
use Rattle.b_ast.specs.declared.Link.{Link}
use Rattle.b_ast.specs.declared.After.{After}
use Rattle.b_ast.specs.declared.machine.Subst.{Subst}
use Rattle.b_ast.specs.declared.machine.Branch.{Branch}
use Rattle.b_ast.specs.declared.machine.CaseBranch.{CaseBranch}
use Rattle.b_ast.specs.declared.machine.Step.{Step}
use Rattle.b_ast.specs.declared.Sort.{Sort}
use Rattle.b_summaries.specs.Standing as formulas
use Rattle.b_substitutions.specs.Standing as substs
use Rattle.b_use_forms.specs.declared.forms.Form.{Form}
use Rattle.b_use_forms.specs.declared.texts.Text.{Text}
use Rattle.b_use_forms.specs.Forms as spec
use Rattle.b_use_forms.specs.Forms.{Reading, Behind, Side}

-- all definitions are told, as formulas and as substitutions
pub record IsReady (t : Text) : Type 0 where
  pub formulas : formulas.IsReady t.formulas
  pub all : length t.formulas.known.now ≡ length t.formulas.table.now
  pub told : substs.AreTold t.formulas.table.now t.uses.now
  pub many : length t.uses.now ≡ length t.formulas.table.now

-- ---- parts of a text

abbrev pub reading_in : Text → Formula → Reading
reading_in t = spec.reading t.formulas.table.now t.front t.formulas.params.now

abbrev pub form_in : Text → Formula → Form
form_in t e = (reading_in t e).tree

abbrev pub behind_in : Text → After → Behind
behind_in t = spec.behind_of t.formulas.table.now t.front t.formulas.params.now

abbrev pub side_in : Text → Link → Side
side_in t = spec.side_of t.formulas.table.now t.front t.formulas.params.now

-- the name that the head of a row is means a definition with parameters
abbrev pub called_in : Text → Formula → Option ℕ
called_in t e = spec.called t.formulas.table.now t.front t.formulas.params.now (reading_in t e).name

abbrev pub row_in : Text → Formula → List After → Form
row_in t e fs = spec.row t.formulas.table.now t.front t.formulas.params.now (called_in t e) (reading_in t e) (map (behind_in t) fs)

abbrev pub use_in : Text → ℕ → List Form → Form
use_in t i fs = spec.use_at t.formulas.table.now t.front i fs

abbrev pub fits_in : Text → Sort → Formula → Bool
fits_in t s e = spec.is_formula t.formulas.table.now t.front t.formulas.params.now s e

abbrev pub expressions_in : Text → List Formula → Bool
expressions_in t es = spec.are_expressions t.formulas.table.now t.front t.formulas.params.now es

abbrev pub arguments_in : Text → List Formula → List Form
arguments_in t es = spec.arguments t.formulas.table.now t.front t.formulas.params.now es

abbrev pub subst_in : Text → Subst → Bool
subst_in t = spec.subst_fits t.formulas.table.now t.front t.formulas.params.now

abbrev pub branch_in : Text → Branch → Bool
branch_in t = spec.branch_fits t.formulas.table.now t.front t.formulas.params.now

abbrev pub case_in : Text → CaseBranch → Bool
case_in t = spec.case_fits t.formulas.table.now t.front t.formulas.params.now

abbrev pub step_in : Text → Step → Bool
step_in t = spec.step_fits t.formulas.table.now t.front t.formulas.params.now
