-- What the bodies of a machine's definitions are: expressions, predicates or substitutions.
use Rattle.std.specs.Prelude.{ℕ, ◌+◌, Bool, true, false, ◌==◌, ◌&&◌, if◌then◌else◌, List, [], ◌∷◌, ◌++◌, map, length, position, bytes_eq, slice_get, Option, Some, None, is_some, option_map, option_and_then}
use Rattle.b_ast.specs.declared.Bound.{Bound}
use Rattle.b_ast.specs.declared.Sort.{Sort}
use Rattle.b_ast.specs.declared.Sort.TheVariants as sort
use Rattle.b_ast.specs.declared.Operator.{Operator}
use Rattle.b_ast.specs.declared.Place.{Place}
use Rattle.b_ast.specs.declared.Formula.{Formula, fold-Formula, out-Formula}
use Rattle.b_ast.specs.declared.Link.{Link, fold-Link}
use Rattle.b_ast.specs.declared.After.{After, fold-After, out-After}
use Rattle.b_ast.specs.declared.After.TheOpen.{Formula-F, Link-F, After-F}
use Rattle.b_ast.specs.Sorts.{chain_sort, call_sort}
use Rattle.b_ast.specs.declared.machine.Def.{Def}
use Rattle.b_ast.specs.declared.machine.DefBody.{DefBody}
use Rattle.b_ast.specs.declared.machine.DefBody.TheVariants as body
use Rattle.b_ast.specs.declared.machine.Subst.{Subst}
use Rattle.b_ast.specs.declared.machine.Subst.TheVariants as subst
use Rattle.b_machine_grammar.specs.declared.trees.BodyText.{BodyText}
use Rattle.b_machine_grammar.specs.declared.trees.BodyText.TheVariants as text
use Rattle.b_machine_grammar.specs.declared.trees.DefText.{DefText}
use Rattle.b_names.specs.Index.{place_of}
use Rattle.b_machine_defs.specs.declared.kinds.Kind.{Kind}
use Rattle.b_machine_defs.specs.declared.kinds.Kind.TheVariants as kind

-- ---- before it is known what names stand for

-- a body that reads as a formula and as a substitution is kept as a predicate, and any other formula as an expression
abbrev pub unsorted_body : BodyText → DefBody
unsorted_body (text.Formula e) = body.Expr (record { formula = e })
unsorted_body (text.Either e u) = body.Pred (record { formula = e })
unsorted_body (text.Subst u) = body.Subst u

abbrev pub definition : Bound → List (List ℕ) → BodyText → Def
definition x ps b = record { name = x.name; params = ps; body = unsorted_body b; at = x.at.at }

abbrev pub unsorted : DefText → Def
unsorted t = definition t.name (map (λ x. x.name) t.params) t.body

abbrev pub all_unsorted : List DefText → List Def
all_unsorted ts = map unsorted ts

-- ---- what a tree is by its form

-- a use that stands alone: its name, and whether it has arguments
abbrev pub Alone : Type 0
Alone = List ℕ × Bool

-- what a tree is, as far as its form says: the name that it is, the use that it is, or else its sort
pub record Shape : Type 0 where
  pub name : Option (List ℕ)
  pub alone : Option Alone
  pub sort : Sort

abbrev pub plain : Sort → Shape
plain s = record { name = None; alone = None; sort = s }

abbrev pub is_one : List Bool → Bool
is_one (b ∷ []) = b
is_one bs = false

-- a name with one application behind it
abbrev pub applied : Option (List ℕ) → List Bool → Option Alone
applied o bs = if is_one bs then option_map (λ x. (x, true)) o else None

abbrev pub sort_by : List Operator → Sort
sort_by [] = sort.Expression
sort_by (o ∷ os) = chain_sort o

abbrev pub after_step : After-F Bool Shape Operator → Bool
after_step (After-F.Converse at) = false
after_step (After-F.Apply at r) = true
after_step (After-F.Image at r) = false

abbrev pub link_step : Link-F Bool Shape Operator → Operator
link_step l = l.operator

abbrev pub formula_step : Formula-F Bool Shape Operator → Shape
formula_step (Formula-F.Name at x) = record { name = Some x; alone = Some (x, false); sort = sort.Expression }
formula_step (Formula-F.Chain r os) = plain (sort_by os)
formula_step (Formula-F.Row r bs) = record { name = None; alone = applied r.name bs; sort = sort.Expression }
formula_step (Formula-F.Call at f rs) = plain (call_sort f)
formula_step (Formula-F.Quantified at q xs r) = plain sort.Predicate
formula_step x = plain sort.Expression

abbrev pub is_apply : After → Bool
is_apply = fold-After Bool Shape Operator after_step formula_step link_step

abbrev pub operator_of : Link → Operator
operator_of = fold-Link Bool Shape Operator after_step formula_step link_step

abbrev pub shape : Formula → Shape
shape = fold-Formula Bool Shape Operator after_step formula_step link_step

-- ---- what names stand for, by what the first definitions of a table are

abbrev pub kind_of_sort : Sort → Kind
kind_of_sort sort.Expression = kind.Expression
kind_of_sort s = kind.Predicate

abbrev pub kind_of_name : List Def → List Kind → List ℕ → Option Kind
kind_of_name table ks x = option_and_then (slice_get ks) (place_of table x)

-- a name in brackets' front is applied to what its definition stands for, where that has no parameters
abbrev pub has_no_params : Option Def → Bool
has_no_params None = true
has_no_params (Some d) = length d.params == 0

abbrev pub has_no_params_named : List Def → List ℕ → Bool
has_no_params_named table x = has_no_params (option_and_then (slice_get table) (place_of table x))

-- what a use is that stands alone: what its definition is; a parameter or another name is an expression
abbrev pub kind_or_expression : Option Kind → Kind
kind_or_expression None = kind.Expression
kind_or_expression (Some k) = k

abbrev pub alone_kind : List Def → List Kind → List (List ℕ) → Alone → Kind
alone_kind table ks ps a =
    if is_some (position (bytes_eq a.0) ps) then kind.Expression
    else if a.1 && has_no_params_named table a.0 then kind.Expression
    else kind_or_expression (kind_of_name table ks a.0)

abbrev pub shape_kind : List Def → List Kind → List (List ℕ) → Shape → Option Alone → Kind
shape_kind table ks ps r None = kind_of_sort r.sort
shape_kind table ks ps r (Some a) = alone_kind table ks ps a

-- a formula as a body
abbrev pub formula_kind : List Def → List Kind → List (List ℕ) → Formula → Kind
formula_kind table ks ps e = shape_kind table ks ps (shape e) (shape e).alone

-- a text that is no substitution is none, whatever its name stands for
abbrev pub no_subst : Kind → Kind
no_subst kind.Substitution = kind.Expression
no_subst k = k

abbrev pub kind_of_body : List Def → List Kind → List (List ℕ) → DefBody → Kind
kind_of_body table ks ps (body.Expr e) = no_subst (formula_kind table ks ps e.formula)
kind_of_body table ks ps (body.Pred p) = formula_kind table ks ps p.formula
kind_of_body table ks ps (body.Subst u) = kind.Substitution

-- the definitions one after the other: each knows those before it
abbrev pub kinds_after : List Def → List Kind → List Def → List Kind
kinds_after table ks [] = ks
kinds_after table ks (d ∷ ds) = kinds_after table (ks ++ kind_of_body table ks d.params d.body ∷ []) ds

abbrev pub kinds : List Def → List Kind
kinds table = kinds_after table [] table

-- ---- the table

-- what stands for what is no use
abbrev pub no_use : Subst
no_use = subst.Skip (record { machine = false; at = 0; depth = 0 })

abbrev pub with_argument : Place → List ℕ → After-F After Formula Link → Subst
with_argument at x (After-F.Apply p e) = subst.Use at x (e ∷ [])
with_argument at x f = no_use

abbrev pub with_forms : Place → List ℕ → List After → Subst
with_forms at x (f ∷ []) = with_argument at x (out-After f)
with_forms at x fs = no_use

abbrev pub with_head : Formula-F After Formula Link → List After → Subst
with_head (Formula-F.Name at x) fs = with_forms at x fs
with_head e fs = no_use

-- the substitution that a use is which stands alone
abbrev pub use_step : Formula-F After Formula Link → Subst
use_step (Formula-F.Name at x) = subst.Use at x []
use_step (Formula-F.Row r fs) = with_head (out-Formula r) fs
use_step e = no_use

abbrev pub use_of : Formula → Subst
use_of e = use_step (out-Formula e)

-- a formula as what it is
abbrev pub formula_as : Kind → Formula → DefBody
formula_as kind.Expression e = body.Expr (record { formula = e })
formula_as kind.Predicate e = body.Pred (record { formula = e })
formula_as kind.Substitution e = body.Subst (use_of e)

abbrev pub body_as : Kind → DefBody → DefBody
body_as k (body.Expr e) = formula_as k e.formula
body_as k (body.Pred p) = formula_as k p.formula
body_as k (body.Subst u) = body.Subst u

abbrev pub def_as : Kind → Def → Def
def_as k d = record d { body = body_as k d.body }

-- each from a place on as what it is there
abbrev pub all_as : List Kind → ℕ → List Def → List Def
all_as ks i [] = []
all_as ks i (d ∷ ds) = def_as (kind_or_expression (slice_get ks i)) d ∷ all_as ks (i + 1) ds

-- a table in the order of use with each body as what it is
abbrev pub declared : List Def → List Def
declared table = all_as (kinds table) 0 table
