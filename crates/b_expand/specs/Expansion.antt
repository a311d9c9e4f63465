-- The tree that a formula stands for once its definitions are expanded.
use Rattle.std.specs.Prelude.{ℕ, ◌==◌, length, Bool, true, false, ◌&&◌, not, if◌then◌else◌, List, [], ◌∷◌, map, fold, position, slice_get, bytes_eq, Option, Some, None, is_some, option_map, option_and_then}
use Rattle.std.specs.List.{list_all}
use Rattle.b_ast.specs.declared.Place.{Place}
use Rattle.b_ast.specs.declared.Bound.{Bound}
use Rattle.b_ast.specs.declared.Sort.{Sort}
use Rattle.b_ast.specs.declared.Sort.TheVariants as sort
use Rattle.b_ast.specs.declared.Operator.{Operator}
use Rattle.b_ast.specs.declared.Operator.TheVariants as operator
use Rattle.b_ast.specs.declared.machine.Def.{Def}
use Rattle.b_ast.specs.declared.machine.DefBody.{DefBody}
use Rattle.b_ast.specs.declared.machine.DefBody.TheVariants as body
use Rattle.b_ast.specs.declared.Formula.{Formula, fold-Formula}
use Rattle.b_ast.specs.declared.Formula.TheVariants as formula
use Rattle.b_ast.specs.declared.Link.{Link, fold-Link, roll-Link}
use Rattle.b_ast.specs.declared.After.{After, fold-After}
use Rattle.b_ast.specs.declared.After.TheVariants as after
use Rattle.b_ast.specs.declared.After.TheOpen.{Formula-F, Link-F, After-F}
use Rattle.b_ast.specs.Sorts.{sort_of, fits}
use Rattle.b_expand.specs.Places.{brackets, deeper_place, deeper_bound, deeper}

-- ---- names

-- where a text stands: how many brackets are open round it, and its parameters with the trees that stand for them
pub record Scope : Type 0 where
  pub round : ℕ
  pub params : List (List ℕ)
  pub trees : List Formula

-- the tree that stands for a parameter: of equal parameters the first counts
abbrev pub tree_of : Scope → List ℕ → Option Formula
tree_of s x = option_and_then (slice_get s.trees) (position (bytes_eq x) s.params)

-- what a definition's name means at its uses: the parameters, the declared sort, and the body's tree in a scope
pub record Meaning : Type 0 where
  pub params : List (List ℕ)
  pub sort : Sort
  pub body : Scope → Option Formula

-- what names mean: nothing, or a definition
abbrev pub Meanings : Type 0
Meanings = List ℕ → Option Meaning

-- a name that may be bound: no definition's of the table, and no parameter of the text
abbrev pub may_bind : List Def → Scope → Bound → Bool
may_bind table s x = not (is_some (position (λ d. bytes_eq x.name d.name) table)) && not (is_some (position (bytes_eq x.name) s.params))

-- bound names under the brackets of the text, where they may be bound
abbrev pub bound : List Def → Scope → List Bound → Option (List Bound)
bound table s xs = if list_all (may_bind table s) xs then Some (map (deeper_bound s.round) xs) else None

-- ---- trees from trees

-- from two, where both are there
abbrev pub both : {X Y Z : Type 0} → (X → Y → Z) → Option X → Option Y → Option Z
both f (Some x) (Some y) = Some (f x y)
both f (Some x) None = None
both f None o = None

-- from three
abbrev pub all_three : {W X Y Z : Type 0} → (W → X → Y → Z) → Option W → Option X → Option Y → Option Z
all_three f (Some w) (Some x) (Some y) = Some (f w x y)
all_three f (Some w) (Some x) None = None
all_three f (Some w) None o = None
all_three f None o p = None

-- all of them, where all are there
abbrev pub all_of : {X : Type 0} → List (Option X) → Option (List X)
all_of [] = Some []
all_of (o ∷ os) = both (λ x xs. x ∷ xs) o (all_of os)

-- the tree, where it is of the wanted sort
abbrev pub of_sort : Sort → Option Formula → Option Formula
of_sort wanted o = option_and_then (λ e. if fits wanted (sort_of e) then Some e else None) o

-- the tree, where it has a sort
abbrev pub sorted : Option Formula → Option Formula
sorted o = option_and_then (λ e. if is_some (sort_of e) then Some e else None) o

-- a use, at a place with so many brackets open, of a definition with as many parameters as there are trees
abbrev pub used_with : ℕ → Meaning → Scope → List Formula → Option Formula
used_with depth m s es = if length es == length m.params then of_sort m.sort (m.body (record { round = brackets (brackets s.round depth) 1; params = m.params; trees = es })) else None

-- a use with its arguments, each of which expands and has a sort
abbrev pub used : ℕ → Meaning → Scope → List (Option Formula) → Option Formula
used depth m s args = option_and_then (used_with depth m s) (all_of (map sorted args))

-- what a name stands for: a parameter's tree under its brackets and one more, a definition's body, or itself
abbrev pub named : Option Meaning → Option Formula → Scope → Place → List ℕ → Option Formula
named m (Some e) s at x = Some (deeper (brackets 1 at.depth) e)
named (Some m) None s at x = used at.depth m s []
named None None s at x = Some (formula.Name (deeper_place s.round at) x)

-- a use with the forms after its arguments; without such forms it stands alone
abbrev pub row_of : Formula → List After → Formula
row_of e [] = e
row_of e (f ∷ fs) = formula.Row e (f ∷ fs)

-- the comma of a couple is a maplet once it separates no arguments
abbrev pub expanded_operator : Operator → Operator
expanded_operator operator.Comma = operator.Maplet
expanded_operator o = o

abbrev pub is_comma : Operator → Bool
is_comma operator.Comma = true
is_comma o = false

-- ---- readings: what the parts of a tree give in each scope

abbrev pub Expands : Type 0 → Type 0
Expands X = Scope → Option X

-- a tree: the name and the depth of its place where it is a name, the tree that it stands for, and the arguments that it
-- is in the brackets of a use
pub record Reading : Type 0 where
  pub name : Option (ℕ × List ℕ)
  pub tree : Expands Formula
  pub arguments : List (Expands Formula)

-- a form after an operand: its arguments where it is an application, and the form that it stands for
pub record Form : Type 0 where
  pub arguments : Option (List (Expands Formula))
  pub form : Expands After

-- a link of a chain: whether its operator is a comma, its operand, and the link that it stands for
pub record Side : Type 0 where
  pub comma : Bool
  pub operand : Expands Formula
  pub link : Expands Link

-- a tree that is no name and no list of arguments
abbrev pub plain : Expands Formula → Reading
plain e = record { name = None; tree = e; arguments = e ∷ [] }

abbrev pub trees : List Reading → Expands (List Formula)
trees rs s = all_of (map (λ r. r.tree s) rs)

abbrev pub forms : List Form → Expands (List After)
forms fs s = all_of (map (λ f. f.form s) fs)

abbrev pub links : List Side → Expands (List Link)
links ls s = all_of (map (λ l. l.link s) ls)

abbrev pub chain : Reading → List Side → Expands Formula
chain r ls s = both formula.Chain (r.tree s) (links ls s)

-- operands between commas are arguments
abbrev pub chain_arguments : Reading → List Side → List (Expands Formula)
chain_arguments r ls = if list_all (λ l. l.comma) ls then r.tree ∷ map (λ l. l.operand) ls else chain r ls ∷ []

-- the definition with parameters that a name means, with the depth of the name's place
abbrev pub called : Meanings → Scope → Option (ℕ × List ℕ) → Option (ℕ × Meaning)
called means s n = option_and_then (λ n. if is_some (tree_of s n.1) then None else option_and_then (λ m. if length m.params == 0 then None else Some (n.0, m)) (means n.1)) n

-- the arguments in the first of some forms, where it is an application
abbrev pub first_arguments : List Form → Option (List (Expands Formula))
first_arguments [] = None
first_arguments (f ∷ fs) = f.arguments

abbrev pub later_forms : List Form → List Form
later_forms [] = []
later_forms (f ∷ fs) = fs

abbrev pub plain_row : Reading → List Form → Expands Formula
plain_row r fs s = both formula.Row (r.tree s) (forms fs s)

-- a row whose head is called: a use where it begins with arguments
abbrev pub applied : ℕ × Meaning → Option (List (Expands Formula)) → Reading → List Form → Expands Formula
applied m (Some args) r fs s = both row_of (used m.0 m.1 s (map (λ a. a s) args)) (forms (later_forms fs) s)
applied m None r fs s = plain_row r fs s

abbrev pub row : Option (ℕ × Meaning) → Reading → List Form → Expands Formula
row (Some m) r fs s = applied m (first_arguments fs) r fs s
row None r fs s = plain_row r fs s

-- ---- readings of a tree by the table and what names mean

abbrev pub after_step : After-F Form Reading Side → Form
after_step (After-F.Converse at) = record { arguments = None; form = λ s. Some (after.Converse (deeper_place s.round at)) }
after_step (After-F.Apply at r) = record { arguments = Some r.arguments; form = λ s. option_map (after.Apply (deeper_place s.round at)) (r.tree s) }
after_step (After-F.Image at r) = record { arguments = None; form = λ s. option_map (after.Image (deeper_place s.round at)) (r.tree s) }

abbrev pub link_step : Link-F Form Reading Side → Side
link_step l = record {
  comma = is_comma l.operator;
  operand = l.operand.tree;
  link = λ s. option_map (λ e. roll-Link (record { operator = expanded_operator l.operator; at = deeper_place s.round l.at; operand = e })) (l.operand.tree s);
}

abbrev pub formula_step : List Def → Meanings → Formula-F Form Reading Side → Reading
formula_step table means (Formula-F.Number at k) = plain (λ s. Some (formula.Number (deeper_place s.round at) k))
formula_step table means (Formula-F.Text at x) = plain (λ s. Some (formula.Text (deeper_place s.round at) x))
formula_step table means (Formula-F.Name at x) = record (plain (λ s. named (means x) (tree_of s x) s at x)) { name = Some (at.depth, x) }
formula_step table means (Formula-F.Old at x) = plain (λ s. Some (formula.Old (deeper_place s.round at) x))
formula_step table means (Formula-F.Constant at c) = plain (λ s. Some (formula.Constant (deeper_place s.round at) c))
formula_step table means (Formula-F.Negative at r) = plain (λ s. option_map (formula.Negative (deeper_place s.round at)) (r.tree s))
formula_step table means (Formula-F.Chain r ls) = record (plain (chain r ls)) { arguments = chain_arguments r ls }
formula_step table means (Formula-F.Row r fs) = plain (λ s. row (called means s r.name) r fs s)
formula_step table means (Formula-F.Call at f rs) = plain (λ s. option_map (formula.Call (deeper_place s.round at) f) (trees rs s))
formula_step table means (Formula-F.Set at rs) = plain (λ s. option_map (formula.Set (deeper_place s.round at)) (trees rs s))
formula_step table means (Formula-F.Sequence at rs) = plain (λ s. option_map (formula.Sequence (deeper_place s.round at)) (trees rs s))
formula_step table means (Formula-F.Comprehension at xs r) = plain (λ s. both (formula.Comprehension (deeper_place s.round at)) (bound table s xs) (r.tree s))
formula_step table means (Formula-F.Quantified at q xs r) = plain (λ s. both (formula.Quantified (deeper_place s.round at) q) (bound table s xs) (r.tree s))
formula_step table means (Formula-F.Collected at c xs q r) = plain (λ s. all_three (formula.Collected (deeper_place s.round at) c) (bound table s xs) (q.tree s) (r.tree s))
formula_step table means (Formula-F.If at p q r) = plain (λ s. all_three (formula.If (deeper_place s.round at)) (p.tree s) (q.tree s) (r.tree s))

abbrev pub reading : List Def → Meanings → Formula → Reading
reading table means = fold-Formula Form Reading Side after_step (formula_step table means) link_step

abbrev pub form_of : List Def → Meanings → After → Form
form_of table means = fold-After Form Reading Side after_step (formula_step table means) link_step

abbrev pub side_of : List Def → Meanings → Link → Side
side_of table means = fold-Link Form Reading Side after_step (formula_step table means) link_step

-- the tree that a tree stands for in a scope
abbrev pub expanded : List Def → Meanings → Scope → Formula → Option Formula
expanded table means s t = (reading table means t).tree s

-- ---- the table: a body knows the definitions before it, and of two definitions of a name the first counts

-- a formula is expanded where the definition is used; a substitution is no formula
abbrev pub meaning_of : List Def → Meanings → List (List ℕ) → DefBody → Meaning
meaning_of table means ps (body.Expr e) = record { params = ps; sort = sort.Expression; body = λ s. expanded table means s e.formula }
meaning_of table means ps (body.Pred p) = record { params = ps; sort = sort.Predicate; body = λ s. expanded table means s p.formula }
meaning_of table means ps (body.Subst u) = record { params = ps; sort = sort.Expression; body = λ s. None }

abbrev pub first_of : Option Meaning → Option Meaning → Option Meaning
first_of (Some m) o = Some m
first_of None o = o

-- what names mean after one more definition
abbrev pub with_definition : List Def → Meanings → Def → Meanings
with_definition table means d x = first_of (means x) (if bytes_eq x d.name then Some (meaning_of table means d.params d.body) else None)

-- what names mean after some definitions
abbrev pub meanings : List Def → List Def → Meanings
meanings table ds = fold (with_definition table) (λ x. None) ds

-- a text that stands alone
abbrev pub alone : Scope
alone = record { round = 0; params = []; trees = [] }

-- the tree that a formula stands for
abbrev pub expansion : List Def → Formula → Option Formula
expansion table t = expanded table (meanings table table) alone t
