-- What a substitution adds to the parts of a body, by the body's parameters and what names mean.
use Rattle.std.specs.Prelude.{ℕ, ◌==◌, if◌then◌else◌, List, [], ◌∷◌, map, fold, length, bytes_eq, Option, Some, None, is_some, option_and_then}
use Rattle.b_ast.specs.declared.Sort.{Sort}
use Rattle.b_ast.specs.declared.Sort.TheVariants as sort
use Rattle.b_ast.specs.declared.Formula.{Formula}
use Rattle.b_ast.specs.declared.machine.Def.{Def}
use Rattle.b_ast.specs.declared.machine.DefBody.{DefBody}
use Rattle.b_ast.specs.declared.machine.DefBody.TheVariants as body
use Rattle.b_ast.specs.declared.machine.Subst.{Subst, fold-Subst}
use Rattle.b_ast.specs.declared.machine.Subst.TheOpen.{Subst-F, Branch-F, CaseBranch-F, Step-F}
use Rattle.b_ast.specs.declared.machine.Branch.{Branch, fold-Branch}
use Rattle.b_ast.specs.declared.machine.CaseBranch.{CaseBranch, fold-CaseBranch}
use Rattle.b_ast.specs.declared.machine.Step.{Step, fold-Step}
use Rattle.b_expand.specs.Places.{names_depth}
use Rattle.b_expand.specs.Expansion.{both, all_of}
use Rattle.b_summaries.specs.declared.summary.Size.{Size}
use Rattle.b_summaries.specs.declared.summary.Parts.{Parts}
use Rattle.b_summaries.specs.declared.summary.Summary.{Summary}
use Rattle.b_summaries.specs.declared.summary.Told.{Told}
use Rattle.b_summaries.specs.Sizes.{nothing, nothing_asked}
use Rattle.b_summaries.specs.Making.{alone, join, place_size, fit, substituted, told_of}
use Rattle.b_summaries.specs.Summaries as formulas
use Rattle.b_summaries.specs.Summaries.{with_part, with_place, formed, node, place_of, may_bind_all}
use Rattle.b_substitutions.specs.Expansion.{arguments_by}

-- ---- what names mean where a substitution may stand: what a use gives, if any can be right

abbrev pub Meanings : Type 0
Meanings = List ℕ → Option (Option Told)

-- what a use of a name gives; nothing where it is a parameter or no definition
abbrev pub called : List (List ℕ) → Meanings → List ℕ → Option Told
called ps others x = option_and_then (λ t. t) (if is_some (place_of ps x) then None else others x)

-- a use with its arguments
abbrev pub used : ℕ → Option Told → Option (List Summary) → Option Summary
used depth t us = option_and_then (λ t. option_and_then (substituted t depth) us) t

-- ---- parts one after the other

abbrev pub Adds : Type 0
Adds = Option Parts → Option Parts

-- with one more size
abbrev pub with_size : Size → Adds
with_size z o = both join o (Some (alone z))

-- with one more node that has a place
abbrev pub with_node : ℕ → Adds
with_node d o = with_size (place_size 1 d) o

-- with a use
abbrev pub with_use : Option Summary → Adds
with_use u o = both join o (fit nothing_asked u)

abbrev pub with_all : List Adds → Adds
with_all [] o = o
with_all (f ∷ fs) o = with_all fs (f o)

abbrev pub with_perhaps : Option Adds → Adds
with_perhaps None o = o
with_perhaps (Some f) o = f o

module _ (table : List Def) (ps : List (List ℕ)) (means : formulas.Meanings) (others : Meanings) where
  abbrev pub with_formula : Sort → Formula → Adds
  with_formula wanted e o = with_part wanted (formulas.summary table ps means e) o

  abbrev pub with_expressions : List Formula → Adds
  with_expressions [] o = o
  with_expressions (e ∷ es) o = with_expressions es (with_formula sort.Expression e o)

  abbrev pub arguments : List Formula → Option (List Summary)
  arguments es = all_of (arguments_by (λ e. (formulas.reading table ps means e).arguments) es)

  abbrev pub branch_step : Branch-F Adds Adds Adds Adds → Adds
  branch_step b o = b.body (with_formula sort.Predicate b.guard o)

  abbrev pub case_step : CaseBranch-F Adds Adds Adds Adds → Adds
  case_step b o = b.body (with_expressions b.labels o)

  abbrev pub step_step : Step-F Adds Adds Adds Adds → Adds
  step_step k o = k.body (with_place k.at.depth o)

  abbrev pub subst_step : Subst-F Adds Adds Adds Adds → Adds
  subst_step (Subst-F.Skip at) o = with_node at.depth o
  subst_step (Subst-F.Block at r) o = r (with_node at.depth o)
  subst_step (Subst-F.Assign at xs es) o = with_expressions es (with_node (names_depth at xs) o)
  subst_step (Subst-F.Update at x e f) o = with_formula sort.Expression f (with_formula sort.Expression e (with_node (names_depth at (x ∷ [])) o))
  subst_step (Subst-F.ChooseFrom at x e) o = with_formula sort.Expression e (with_node (names_depth at (x ∷ [])) o)
  subst_step (Subst-F.ChooseSuch at xs p) o = with_formula sort.Predicate p (with_node (names_depth at xs) o)
  subst_step (Subst-F.Guarded at g p r) o = r (with_formula sort.Predicate p (with_node at.depth o))
  subst_step (Subst-F.If at bs u) o = with_perhaps u (with_all bs (with_node at.depth o))
  subst_step (Subst-F.Select at bs u) o = with_perhaps u (with_all bs (with_node at.depth o))
  subst_step (Subst-F.Choice at rs) o = with_all rs (with_node at.depth o)
  subst_step (Subst-F.Case at e bs u) o = with_perhaps u (with_all bs (with_formula sort.Expression e (with_node at.depth o)))
  subst_step (Subst-F.Any at xs p r) o = if may_bind_all table ps xs then r (with_formula sort.Predicate p (with_node (names_depth at xs) o)) else None
  subst_step (Subst-F.Let at xs es r) o = if may_bind_all table ps xs then r (with_expressions es (with_node (names_depth at xs) o)) else None
  subst_step (Subst-F.Chain r ks) o = with_all ks (r (with_size node o))
  subst_step (Subst-F.Use at x es) o = with_use (used at.depth (called ps others x) (arguments es)) o

  -- with a substitution
  abbrev pub with_subst : Subst → Adds
  with_subst = fold-Subst Adds Adds Adds Adds subst_step branch_step case_step step_step

  abbrev pub with_branch : Branch → Adds
  with_branch = fold-Branch Adds Adds Adds Adds subst_step branch_step case_step step_step

  abbrev pub with_case : CaseBranch → Adds
  with_case = fold-CaseBranch Adds Adds Adds Adds subst_step branch_step case_step step_step

  abbrev pub with_step : Step → Adds
  with_step = fold-Step Adds Adds Adds Adds subst_step branch_step case_step step_step

  -- the parts of a body that is a substitution
  abbrev pub parts_of : Subst → Option Parts
  parts_of u = with_subst u (Some (alone nothing))

-- ---- the table

-- what names mean after some definitions
pub record Known : Type 0 where
  pub formulas : formulas.Meanings
  pub uses : Meanings

-- what a use of a body gives; a substitution has no sort, and what stands in its place isn't asked for
abbrev pub told_subst : List (List ℕ) → Option Parts → Option Told
told_subst ps o = told_of ps nothing_asked (formed sort.Expression o)

-- what a use of a definition gives; a formula is no substitution
abbrev pub told_body : List Def → Known → List (List ℕ) → DefBody → Option Told
told_body table k ps (body.Subst u) = told_subst ps (parts_of table ps k.formulas k.uses u)
told_body table k ps b = None

abbrev pub first_of : Option (Option Told) → Option (Option Told) → Option (Option Told)
first_of (Some t) o = Some t
first_of None o = o

-- after one more definition
abbrev pub with_definition : List Def → Known → Def → Known
with_definition table k d = record {
  formulas = formulas.with_definition table k.formulas d;
  uses = λ x. first_of (k.uses x) (if bytes_eq x d.name then Some (told_body table k d.params d.body) else None);
}

abbrev pub nothing_known : Known
nothing_known = record { formulas = λ x. None; uses = λ x. None }

-- after some definitions
abbrev pub known : List Def → List Def → Known
known table ds = fold (with_definition table) nothing_known ds
