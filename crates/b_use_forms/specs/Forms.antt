-- Which trees can be right under a table in which some uses come to no end. A use of a definition whose uses come to an end
-- is judged by what is told of that definition; any other use has as many arguments as its definition has parameters, and
-- fits every place.
use Rattle.std.specs.Prelude.{ℕ, nat_lt, ◌==◌, Bool, true, false, ◌&&◌, if◌then◌else◌, List, [], ◌∷◌, map, length, slice_get, Option, Some, None, is_some, option_and_then}
use Rattle.std.specs.List.{list_all}
use Rattle.b_ast.specs.declared.Sort.{Sort}
use Rattle.b_ast.specs.declared.Sort.TheVariants as sort
use Rattle.b_ast.specs.declared.Operator.{Operator}
use Rattle.b_ast.specs.declared.machine.Def.{Def}
use Rattle.b_ast.specs.declared.machine.DefBody.{DefBody}
use Rattle.b_ast.specs.declared.machine.DefBody.TheVariants as body
use Rattle.b_ast.specs.declared.Formula.{Formula, fold-Formula}
use Rattle.b_ast.specs.declared.Link.{Link, fold-Link}
use Rattle.b_ast.specs.declared.After.{After, fold-After}
use Rattle.b_ast.specs.declared.After.TheOpen.{Formula-F, Link-F, After-F}
use Rattle.b_ast.specs.declared.machine.Subst.{Subst, fold-Subst}
use Rattle.b_ast.specs.declared.machine.Subst.TheOpen.{Subst-F, Branch-F, CaseBranch-F, Step-F}
use Rattle.b_ast.specs.declared.machine.Branch.{Branch, fold-Branch}
use Rattle.b_ast.specs.declared.machine.CaseBranch.{CaseBranch, fold-CaseBranch}
use Rattle.b_ast.specs.declared.machine.Step.{Step, fold-Step}
use Rattle.b_ast.specs.Sorts.{fits, operand_sort, chain_sort, argument_sort, call_sort, body_sort}
use Rattle.b_names.specs.Index as index
use Rattle.b_expand.specs.Expansion.{expanded_operator, is_comma}
use Rattle.b_summaries.specs.declared.summary.Asked.{Asked}
use Rattle.b_summaries.specs.declared.summary.Share.{Share}
use Rattle.b_summaries.specs.declared.summary.Kind.{Kind}
use Rattle.b_summaries.specs.declared.summary.Kind.TheVariants as kind
use Rattle.b_summaries.specs.declared.summary.Told.{Told}
use Rattle.b_summaries.specs.Sizes.{met}
use Rattle.b_summaries.specs.Summaries.{place_of, may_bind_all}
use Rattle.b_summaries.specs.Standing.{meaning_in}
use Rattle.b_substitutions.specs.Standing.{use_in}
use Rattle.b_substitutions.specs.Expansion.{arguments_by}
use Rattle.b_use_forms.specs.declared.forms.Form.{Form}
use Rattle.b_use_forms.specs.declared.forms.Form.TheVariants.{Wrong, Any, Own}

-- ---- what a tree can be

abbrev pub is_form : Sort → Form → Bool
is_form wanted Wrong = false
is_form wanted Any = true
is_form wanted (Own s) = fits wanted (Some s)

-- all that is asked for
abbrev pub meets : Asked → Form → Bool
meets a Wrong = false
meets a Any = true
meets a (Own s) = met a s

abbrev pub is_right : Form → Bool
is_right Wrong = false
is_right f = true

abbrev pub given : Bool → Sort → Form
given b s = if b then Own s else Wrong

-- ---- uses

abbrev pub first_meets : Asked → List Form → Bool
first_meets a [] = false
first_meets a (f ∷ fs) = meets a f

abbrev pub later_arguments : List Form → List Form
later_arguments [] = []
later_arguments (f ∷ fs) = fs

-- one argument for each parameter, each of which is what is asked for
abbrev pub all_meet : List Share → List Form → Bool
all_meet [] fs = length fs == 0
all_meet (h ∷ hs) fs = first_meets h.asked fs && all_meet hs (later_arguments fs)

abbrev pub or_wrong : Option Form → Form
or_wrong None = Wrong
or_wrong (Some f) = f

-- what a use is: of its own sort, or what the argument for a parameter is
abbrev pub form_in : Kind → List Form → Form
form_in (kind.Own s) fs = Own s
form_in (kind.Argument p) fs = or_wrong (slice_get fs p)

-- a use, by what is told of its definition if any use of it can be right
abbrev pub used : Option Told → List Form → Form
used None fs = Wrong
used (Some t) fs = if all_meet t.shares fs then form_in t.kind fs else Wrong

-- a use that comes to no end fits every place
abbrev pub endless : ℕ → List Form → Form
endless arity fs = if (length fs == arity) && list_all is_right fs then Any else Wrong

abbrev pub parameters_of : Option Def → List (List ℕ)
parameters_of None = []
parameters_of (Some d) = d.params

-- how many parameters the definition at a place has
abbrev pub arity_of : List Def → ℕ → ℕ
arity_of table i = length (parameters_of (slice_get table i))

-- what is told of the definition at a place, as a formula and as a substitution
abbrev pub told_at : List Def → ℕ → Option Told
told_at table i = option_and_then (λ m. m.told) (meaning_in table i)

abbrev pub told_use_at : List Def → ℕ → Option Told
told_use_at table i = option_and_then (λ t. t) (use_in table i)

-- a use of the definition at a place: the uses of so many first ones come to an end
abbrev pub use_at : List Def → ℕ → ℕ → List Form → Form
use_at table front i fs = if nat_lt i front then used (told_at table i) fs else endless (arity_of table i) fs

abbrev pub subst_use_at : List Def → ℕ → ℕ → List Form → Form
subst_use_at table front i fs = if nat_lt i front then used (told_use_at table i) fs else endless (arity_of table i) fs

-- ---- readings

-- a tree: the name that it is, what it can be, and what the arguments that it is can be
pub record Reading : Type 0 where
  pub name : Option (List ℕ)
  pub tree : Form
  pub arguments : List Form

-- a form after an operand: its arguments where it is an application, and whether what stands in it can be right
pub record Behind : Type 0 where
  pub arguments : Option (List Form)
  pub right : Bool

-- a link of a chain
pub record Side : Type 0 where
  pub comma : Bool
  pub operator : Operator
  pub operand : Form

abbrev pub plain : Form → Reading
plain f = record { name = None; tree = f; arguments = f ∷ [] }

-- each operand is what its operator asks for
abbrev pub side_fits : Side → Bool
side_fits l = is_form (operand_sort l.operator) l.operand

abbrev pub chain : Form → List Side → Form
chain f [] = Wrong
chain f (l ∷ ls) = given (is_form (operand_sort l.operator) f && list_all side_fits (l ∷ ls)) (chain_sort l.operator)

-- operands between commas are arguments
abbrev pub chain_arguments : Reading → List Side → List Form
chain_arguments r ls = if list_all (λ l. l.comma) ls then r.tree ∷ map (λ l. l.operand) ls else chain r.tree ls ∷ []

abbrev pub plain_row : Form → List Behind → Form
plain_row f bs = given (is_form sort.Expression f && list_all (λ b. b.right) bs) sort.Expression

-- without forms a use stands alone
abbrev pub row_of : Form → List Behind → Form
row_of f [] = f
row_of f (b ∷ bs) = plain_row f (b ∷ bs)

abbrev pub first_arguments : List Behind → Option (List Form)
first_arguments [] = None
first_arguments (b ∷ bs) = b.arguments

abbrev pub later_forms : List Behind → List Behind
later_forms [] = []
later_forms (b ∷ bs) = bs

abbrev pub after_step : After-F Behind Reading Side → Behind
after_step (After-F.Converse at) = record { arguments = None; right = true }
after_step (After-F.Apply at r) = record { arguments = Some r.arguments; right = is_form sort.Expression r.tree }
after_step (After-F.Image at r) = record { arguments = None; right = is_form sort.Expression r.tree }

abbrev pub link_step : Link-F Behind Reading Side → Side
link_step l = record { comma = is_comma l.operator; operator = expanded_operator l.operator; operand = l.operand.tree }

abbrev pub all_forms : Sort → List Reading → Bool
all_forms wanted rs = list_all (λ r. is_form wanted r.tree) rs

-- ---- parts of a substitution

abbrev pub all_right : List Bool → Bool
all_right bs = list_all (λ b. b) bs

abbrev pub perhaps_right : Option Bool → Bool
perhaps_right None = true
perhaps_right (Some b) = b

abbrev pub step_step : Step-F Bool Bool Bool Bool → Bool
step_step k = k.body

-- ---- trees, by the table, how many first definitions come to an end, and the parameters of the text

module _ (table : List Def) (front : ℕ) (ps : List (List ℕ)) where
  -- the definition that a name means where it is no parameter
  abbrev pub meant : List ℕ → Option ℕ
  meant x = if is_some (place_of ps x) then None else index.place_of table x

  abbrev pub use_of : Option ℕ → List Form → Form
  use_of None fs = Own sort.Expression
  use_of (Some i) fs = use_at table front i fs

  -- a parameter fits every place
  abbrev pub named : List ℕ → Form
  named x = if is_some (place_of ps x) then Any else use_of (meant x) []

  -- the definition with parameters that a name means
  abbrev pub with_parameters : Option ℕ → Option ℕ
  with_parameters None = None
  with_parameters (Some i) = if arity_of table i == 0 then None else Some i

  abbrev pub called : Option (List ℕ) → Option ℕ
  called o = option_and_then (λ x. with_parameters (meant x)) o

  abbrev pub applied : ℕ → Option (List Form) → Reading → List Behind → Form
  applied i None r bs = plain_row r.tree bs
  applied i (Some fs) r bs = row_of (use_at table front i fs) (later_forms bs)

  abbrev pub row : Option ℕ → Reading → List Behind → Form
  row None r bs = plain_row r.tree bs
  row (Some i) r bs = applied i (first_arguments bs) r bs

  abbrev pub formula_step : Formula-F Behind Reading Side → Reading
  formula_step (Formula-F.Number at k) = plain (Own sort.Expression)
  formula_step (Formula-F.Text at x) = plain (Own sort.Expression)
  formula_step (Formula-F.Name at x) = record (plain (named x)) { name = Some x }
  formula_step (Formula-F.Old at x) = plain (Own sort.Expression)
  formula_step (Formula-F.Constant at c) = plain (Own sort.Expression)
  formula_step (Formula-F.Negative at r) = plain (given (is_form sort.Expression r.tree) sort.Expression)
  formula_step (Formula-F.Chain r ls) = record (plain (chain r.tree ls)) { arguments = chain_arguments r ls }
  formula_step (Formula-F.Row r bs) = plain (row (called r.name) r bs)
  formula_step (Formula-F.Call at f rs) = plain (given (all_forms (argument_sort f) rs) (call_sort f))
  formula_step (Formula-F.Set at rs) = plain (given (all_forms sort.Expression rs) sort.Expression)
  formula_step (Formula-F.Sequence at rs) = plain (given (all_forms sort.Expression rs) sort.Expression)
  formula_step (Formula-F.Comprehension at xs r) = plain (given (may_bind_all table ps xs && is_form sort.Predicate r.tree) sort.Expression)
  formula_step (Formula-F.Quantified at q xs r) = plain (given (may_bind_all table ps xs && is_form (body_sort q) r.tree) sort.Predicate)
  formula_step (Formula-F.Collected at c xs q r) = plain (given (may_bind_all table ps xs && (is_form sort.Predicate q.tree && is_form sort.Expression r.tree)) sort.Expression)
  formula_step (Formula-F.If at p q r) = plain (given (is_form sort.Predicate p.tree && (is_form sort.Expression q.tree && is_form sort.Expression r.tree)) sort.Expression)

  abbrev pub reading : Formula → Reading
  reading = fold-Formula Behind Reading Side after_step formula_step link_step

  abbrev pub behind_of : After → Behind
  behind_of = fold-After Behind Reading Side after_step formula_step link_step

  abbrev pub side_of : Link → Side
  side_of = fold-Link Behind Reading Side after_step formula_step link_step

  -- what a formula can be
  abbrev pub form_of : Formula → Form
  form_of e = (reading e).tree

  -- ---- substitutions

  abbrev pub is_formula : Sort → Formula → Bool
  is_formula wanted e = is_form wanted (form_of e)

  abbrev pub are_expressions : List Formula → Bool
  are_expressions es = list_all (is_formula sort.Expression) es

  abbrev pub subst_use : Option ℕ → List Form → Bool
  subst_use None fs = false
  subst_use (Some i) fs = is_right (subst_use_at table front i fs)

  abbrev pub arguments : List Formula → List Form
  arguments es = arguments_by (λ e. (reading e).arguments) es

  abbrev pub branch_step : Branch-F Bool Bool Bool Bool → Bool
  branch_step b = is_formula sort.Predicate b.guard && b.body

  abbrev pub case_step : CaseBranch-F Bool Bool Bool Bool → Bool
  case_step b = are_expressions b.labels && b.body

  abbrev pub subst_step : Subst-F Bool Bool Bool Bool → Bool
  subst_step (Subst-F.Skip at) = true
  subst_step (Subst-F.Block at b) = b
  subst_step (Subst-F.Assign at xs es) = are_expressions es
  subst_step (Subst-F.Update at x e f) = is_formula sort.Expression e && is_formula sort.Expression f
  subst_step (Subst-F.ChooseFrom at x e) = is_formula sort.Expression e
  subst_step (Subst-F.ChooseSuch at xs p) = is_formula sort.Predicate p
  subst_step (Subst-F.Guarded at g p b) = is_formula sort.Predicate p && b
  subst_step (Subst-F.If at bs o) = all_right bs && perhaps_right o
  subst_step (Subst-F.Select at bs o) = all_right bs && perhaps_right o
  subst_step (Subst-F.Choice at bs) = all_right bs
  subst_step (Subst-F.Case at e bs o) = is_formula sort.Expression e && (all_right bs && perhaps_right o)
  subst_step (Subst-F.Any at xs p b) = may_bind_all table ps xs && (is_formula sort.Predicate p && b)
  subst_step (Subst-F.Let at xs es b) = may_bind_all table ps xs && (are_expressions es && b)
  subst_step (Subst-F.Chain b bs) = b && all_right bs
  subst_step (Subst-F.Use at x es) = subst_use (meant x) (arguments es)

  -- whether a substitution can be right
  abbrev pub subst_fits : Subst → Bool
  subst_fits = fold-Subst Bool Bool Bool Bool subst_step branch_step case_step step_step

  abbrev pub branch_fits : Branch → Bool
  branch_fits = fold-Branch Bool Bool Bool Bool subst_step branch_step case_step step_step

  abbrev pub case_fits : CaseBranch → Bool
  case_fits = fold-CaseBranch Bool Bool Bool Bool subst_step branch_step case_step step_step

  abbrev pub step_fits : Step → Bool
  step_fits = fold-Step Bool Bool Bool Bool subst_step branch_step case_step step_step

  -- ---- bodies

  abbrev pub body_fits : DefBody → Bool
  body_fits (body.Expr e) = is_formula sort.Expression e.formula
  body_fits (body.Pred p) = is_formula sort.Predicate p.formula
  body_fits (body.Subst u) = subst_fits u

-- the bodies of all definitions can be right
abbrev pub bodies_fit : List Def → ℕ → List Def → Bool
bodies_fit table front ds = list_all (λ d. body_fits table front d.params d.body) ds
