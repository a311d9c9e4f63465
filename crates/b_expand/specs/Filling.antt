-- The tree that a formula becomes when its definitions are put in, without a look at whether they may be, and how many
-- steps that takes where an argument is looked at only where its parameter stands.
use Rattle.std.specs.Prelude.{ℕ, Bool, false, ◌+◌, if◌then◌else◌, ◌==◌, length, List, [], ◌∷◌, map, fold, position, slice_get, bytes_eq, Option, Some, None, is_some, option_and_then}
use Rattle.std.specs.List.{list_all}
use Rattle.b_ast.specs.declared.Place.{Place}
use Rattle.b_ast.specs.declared.Bound.{Bound}
use Rattle.b_ast.specs.declared.machine.Def.{Def}
use Rattle.b_ast.specs.declared.machine.DefBody.{DefBody}
use Rattle.b_ast.specs.declared.machine.DefBody.TheVariants as body
use Rattle.b_ast.specs.declared.Formula.{Formula, fold-Formula}
use Rattle.b_ast.specs.declared.Formula.TheVariants as formula
use Rattle.b_ast.specs.declared.Link.{Link, fold-Link, roll-Link}
use Rattle.b_ast.specs.declared.After.{After, fold-After}
use Rattle.b_ast.specs.declared.After.TheVariants as after
use Rattle.b_ast.specs.declared.After.TheOpen.{Formula-F, Link-F, After-F}
use Rattle.b_expand.specs.Places.{brackets, deeper_place, deeper_bound, deeper}
use Rattle.b_expand.specs.Expansion.{Scope, tree_of, expanded_operator, is_comma, row_of}

-- ---- parts

-- how many steps, by the parameters and the steps of the arguments for them
abbrev pub Steps : Type 0
Steps = List (List ℕ) → List ℕ → ℕ

-- a tree in each scope
pub record Part : Type 0 where
  pub tree : Scope → Formula
  pub steps : Steps

-- what a definition's name means at its uses: the parameters, the body's tree, and its steps by those of the arguments
pub record Insert : Type 0 where
  pub params : List (List ℕ)
  pub body : Scope → Formula
  pub steps : List ℕ → ℕ

-- what names mean: nothing, or a definition
abbrev pub Inserts : Type 0
Inserts = List ℕ → Option Insert

-- a part that is a tree: the name and the depth of its place where it is a name, and the arguments that it is in the
-- brackets of a use
pub record Filling : Type 0 where
  pub name : Option (ℕ × List ℕ)
  pub part : Part
  pub arguments : List Part

-- a form after an operand, with its arguments where it is an application
pub record Form : Type 0 where
  pub arguments : Option (List Part)
  pub form : Scope → After
  pub steps : Steps

-- a link of a chain
pub record Side : Type 0 where
  pub comma : Bool
  pub operand : Part
  pub link : Scope → Link

-- ---- steps

abbrev pub total : List Part → Steps
total [] ps ns = 0
total (a ∷ args) ps ns = a.steps ps ns + total args ps ns

abbrev pub form_total : List Form → Steps
form_total [] ps ns = 0
form_total (f ∷ fs) ps ns = f.steps ps ns + form_total fs ps ns

-- one for a part, and those of its parts
abbrev pub one_more : List Part → Steps
one_more args ps ns = 1 + total args ps ns

abbrev pub or_none : Option ℕ → ℕ
or_none None = 0
or_none (Some n) = n

-- the steps of the argument for a parameter
abbrev pub argument_steps : List (List ℕ) → List ℕ → List ℕ → ℕ
argument_steps ps ns x = or_none (option_and_then (slice_get ns) (position (bytes_eq x) ps))

-- the steps of a body
abbrev pub used_steps : Option Insert → List ℕ → ℕ
used_steps None ns = 0
used_steps (Some m) ns = m.steps ns

abbrev pub named_steps : Option Insert → List ℕ → Steps
named_steps m x ps ns = 1 + (argument_steps ps ns x + used_steps m [])

-- ---- uses

-- the parameters of a definition, if there is one
abbrev pub params_of : Option Def → List (List ℕ)
params_of None = []
params_of (Some d) = d.params

-- what stands for a substitution, which is no formula
abbrev pub nothing : Formula
nothing = formula.Number (record { machine = false; at = 0; depth = 0 }) 0

-- the trees that stand for the parameters
abbrev pub trees_of : List Part → Scope → List Formula
trees_of args s = map (λ a. a.tree s) args

-- a use, at a place with so many brackets open
abbrev pub used : ℕ → Insert → Scope → List Part → Formula
used depth m s args = m.body (record { round = brackets (brackets s.round depth) 1; params = m.params; trees = trees_of args s })

-- what a name stands for
abbrev pub named : Option Insert → Option Formula → Scope → Place → List ℕ → Formula
named m (Some e) s at x = deeper (brackets 1 at.depth) e
named (Some m) None s at x = used at.depth m s []
named None None s at x = formula.Name (deeper_place s.round at) x

-- the definition with parameters that a name means where it is no parameter, with the depth of the name's place
abbrev pub called : Inserts → List (List ℕ) → Option (ℕ × List ℕ) → Option (ℕ × Insert)
called means ps n = option_and_then (λ n. if is_some (position (bytes_eq n.1) ps) then None else option_and_then (λ m. if length m.params == 0 then None else Some (n.0, m)) (means n.1)) n

-- ---- layers

abbrev pub trees : List Filling → Scope → List Formula
trees rs s = map (λ r. r.part.tree s) rs

abbrev pub forms : List Form → Scope → List After
forms fs s = map (λ f. f.form s) fs

abbrev pub links : List Side → Scope → List Link
links ls s = map (λ l. l.link s) ls

abbrev pub first_arguments : List Form → Option (List Part)
first_arguments [] = None
first_arguments (f ∷ fs) = f.arguments

abbrev pub later_forms : List Form → List Form
later_forms [] = []
later_forms (f ∷ fs) = fs

abbrev pub plain_row : Filling → List Form → Scope → Formula
plain_row r fs s = formula.Row (r.part.tree s) (forms fs s)

abbrev pub applied : ℕ × Insert → Option (List Part) → Filling → List Form → Scope → Formula
applied m (Some args) r fs s = row_of (used m.0 m.1 s args) (forms (later_forms fs) s)
applied m None r fs s = plain_row r fs s

abbrev pub row : Option (ℕ × Insert) → Filling → List Form → Scope → Formula
row (Some m) r fs s = applied m (first_arguments fs) r fs s
row None r fs s = plain_row r fs s

-- those of the body of the definition that a head calls, where the forms begin with arguments
abbrev pub called_steps : Option (ℕ × Insert) → Option (List Part) → Steps
called_steps (Some m) (Some args) ps ns = m.1.steps (map (λ a. a.steps ps ns) args)
called_steps m args ps ns = 0

abbrev pub row_steps : Option (ℕ × Insert) → Filling → List Form → Steps
row_steps m r fs ps ns = 1 + (r.part.steps ps ns + (form_total fs ps ns + called_steps m (first_arguments fs) ps ns))

abbrev pub sides : List Side → List Part
sides ls = map (λ l. l.operand) ls

abbrev pub chain : Filling → List Side → Part
chain r ls = record { tree = λ s. formula.Chain (r.part.tree s) (links ls s); steps = one_more (r.part ∷ sides ls) }

-- operands between commas are arguments
abbrev pub chain_arguments : Filling → List Side → List Part
chain_arguments r ls = if list_all (λ l. l.comma) ls then r.part ∷ sides ls else chain r ls ∷ []

abbrev pub parts : List Filling → List Part
parts rs = map (λ r. r.part) rs

-- a tree that is no name and no list of arguments
abbrev pub alone : Part → Filling
alone p = record { name = None; part = p; arguments = p ∷ [] }

abbrev pub plain : (Scope → Formula) → List Part → Filling
plain e ps = alone (record { tree = e; steps = one_more ps })

abbrev pub bound : Scope → List Bound → List Bound
bound s xs = map (deeper_bound s.round) xs

abbrev pub after_step : After-F Form Filling Side → Form
after_step (After-F.Converse at) = record { arguments = None; form = λ s. after.Converse (deeper_place s.round at); steps = λ ps ns. 0 }
after_step (After-F.Apply at r) = record { arguments = Some r.arguments; form = λ s. after.Apply (deeper_place s.round at) (r.part.tree s); steps = r.part.steps }
after_step (After-F.Image at r) = record { arguments = None; form = λ s. after.Image (deeper_place s.round at) (r.part.tree s); steps = r.part.steps }

abbrev pub link_step : Link-F Form Filling Side → Side
link_step l = record {
  comma = is_comma l.operator;
  operand = l.operand.part;
  link = λ s. roll-Link (record { operator = expanded_operator l.operator; at = deeper_place s.round l.at; operand = l.operand.part.tree s });
}

abbrev pub formula_step : Inserts → Formula-F Form Filling Side → Filling
formula_step means (Formula-F.Number at k) = plain (λ s. formula.Number (deeper_place s.round at) k) []
formula_step means (Formula-F.Text at x) = plain (λ s. formula.Text (deeper_place s.round at) x) []
formula_step means (Formula-F.Name at x) = record (alone (record { tree = λ s. named (means x) (tree_of s x) s at x; steps = named_steps (means x) x })) { name = Some (at.depth, x) }
formula_step means (Formula-F.Old at x) = plain (λ s. formula.Old (deeper_place s.round at) x) []
formula_step means (Formula-F.Constant at c) = plain (λ s. formula.Constant (deeper_place s.round at) c) []
formula_step means (Formula-F.Negative at r) = plain (λ s. formula.Negative (deeper_place s.round at) (r.part.tree s)) (r.part ∷ [])
formula_step means (Formula-F.Chain r ls) = record (alone (chain r ls)) { arguments = chain_arguments r ls }
formula_step means (Formula-F.Row r fs) = alone (record { tree = λ s. row (called means s.params r.name) r fs s; steps = λ ps ns. row_steps (called means ps r.name) r fs ps ns })
formula_step means (Formula-F.Call at f rs) = plain (λ s. formula.Call (deeper_place s.round at) f (trees rs s)) (parts rs)
formula_step means (Formula-F.Set at rs) = plain (λ s. formula.Set (deeper_place s.round at) (trees rs s)) (parts rs)
formula_step means (Formula-F.Sequence at rs) = plain (λ s. formula.Sequence (deeper_place s.round at) (trees rs s)) (parts rs)
formula_step means (Formula-F.Comprehension at xs r) = plain (λ s. formula.Comprehension (deeper_place s.round at) (bound s xs) (r.part.tree s)) (r.part ∷ [])
formula_step means (Formula-F.Quantified at q xs r) = plain (λ s. formula.Quantified (deeper_place s.round at) q (bound s xs) (r.part.tree s)) (r.part ∷ [])
formula_step means (Formula-F.Collected at c xs q r) = plain (λ s. formula.Collected (deeper_place s.round at) c (bound s xs) (q.part.tree s) (r.part.tree s)) (q.part ∷ r.part ∷ [])
formula_step means (Formula-F.If at p q r) = plain (λ s. formula.If (deeper_place s.round at) (p.part.tree s) (q.part.tree s) (r.part.tree s)) (p.part ∷ q.part ∷ r.part ∷ [])

abbrev pub filling : Inserts → Formula → Filling
filling means = fold-Formula Form Filling Side after_step (formula_step means) link_step

abbrev pub form_of : Inserts → After → Form
form_of means = fold-After Form Filling Side after_step (formula_step means) link_step

abbrev pub side_of : Inserts → Link → Side
side_of means = fold-Link Form Filling Side after_step (formula_step means) link_step

-- ---- the table

-- a definition's formula
abbrev pub insert_of : Inserts → List (List ℕ) → DefBody → Insert
insert_of means ps (body.Expr e) = record { params = ps; body = (filling means e.formula).part.tree; steps = (filling means e.formula).part.steps ps }
insert_of means ps (body.Pred p) = record { params = ps; body = (filling means p.formula).part.tree; steps = (filling means p.formula).part.steps ps }
insert_of means ps (body.Subst u) = record { params = ps; body = λ s. nothing; steps = λ ns. 0 }

abbrev pub first_of : Option Insert → Option Insert → Option Insert
first_of (Some m) o = Some m
first_of None o = o

-- what names mean after one more definition
abbrev pub with_definition : Inserts → Def → Inserts
with_definition means d x = first_of (means x) (if bytes_eq x d.name then Some (insert_of means d.params d.body) else None)

-- what names mean after some definitions
abbrev pub inserts : List Def → Inserts
inserts ds = fold with_definition (λ x. None) ds

-- the formula with its definitions put in
abbrev pub filled : List Def → Formula → Formula
filled ds t = (filling (inserts ds) t).part.tree (record { round = 0; params = []; trees = [] })
