-- The summary of a body, by its parameters and what names mean.
use Rattle.std.specs.Prelude.{ℕ, ◌==◌, length, Bool, ◌&&◌, not, if◌then◌else◌, List, [], ◌∷◌, map, fold, position, bytes_eq, Option, Some, None, is_some, option_map, option_and_then}
use Rattle.std.specs.List.{list_all}
use Rattle.b_ast.specs.declared.Bound.{Bound}
use Rattle.b_ast.specs.declared.Sort.{Sort}
use Rattle.b_ast.specs.declared.Sort.TheVariants as sort
use Rattle.b_ast.specs.declared.Operator.{Operator}
use Rattle.b_ast.specs.declared.machine.Def.{Def}
use Rattle.b_ast.specs.declared.machine.DefBody.{DefBody}
use Rattle.b_ast.specs.declared.machine.DefBody.TheVariants as body
use Rattle.b_ast.specs.declared.Formula.{Formula, fold-Formula}
use Rattle.b_ast.specs.declared.Link.{Link, fold-Link}
use Rattle.b_ast.specs.declared.After.{After, fold-After}
use Rattle.b_ast.specs.declared.After.TheOpen.{Formula-F, Link-F, After-F}
use Rattle.b_ast.specs.Sorts.{operand_sort, chain_sort, argument_sort, call_sort, body_sort}
use Rattle.b_expand.specs.Places.{names_depth, brackets}
use Rattle.b_expand.specs.Expansion.{both, all_of, expanded_operator, is_comma}
use Rattle.b_summaries.specs.declared.summary.Size.{Size}
use Rattle.b_summaries.specs.declared.summary.Kind.TheVariants as kind
use Rattle.b_summaries.specs.declared.summary.Parts.{Parts}
use Rattle.b_summaries.specs.declared.summary.Summary.{Summary}
use Rattle.b_summaries.specs.declared.summary.Told.{Told}
use Rattle.b_summaries.specs.Sizes.{nothing, asking, nothing_asked}
use Rattle.b_summaries.specs.Making.{alone, join, place_size, fit, substituted, told_of}

-- ---- parts one after the other

-- with one more place
abbrev pub with_place : ℕ → Option Parts → Option Parts
with_place d o = both join o (Some (alone (place_size 0 d)))

-- with one more tree, which has to be of a sort
abbrev pub with_part : Sort → Option Summary → Option Parts → Option Parts
with_part s u o = both join o (fit (asking s) u)

abbrev pub with_all : Sort → List (Option Summary) → Option Parts → Option Parts
with_all s [] o = o
with_all s (u ∷ us) o = with_all s us (with_part s u o)

-- a tree of a sort from its parts
abbrev pub formed : Sort → Option Parts → Option Summary
formed s o = option_map (λ p. record { kind = kind.Own s; parts = p }) o

-- so many nodes, and no place yet
abbrev pub node : Size
node = record { nodes = 1; depth = None }

abbrev pub start : Size → Option Parts
start z = Some (alone z)

abbrev pub leaf : ℕ → Summary
leaf d = record { kind = kind.Own sort.Expression; parts = alone (place_size 1 d) }

-- the argument for a parameter, at a place with so many brackets open
abbrev pub parameter : ℕ → ℕ → Summary
parameter p d = record { kind = kind.Argument p; parts = record { size = nothing; entries = record { parameter = p; share = record { count = 1; offset = Some (brackets 1 d); asked = nothing_asked } } ∷ [] } }

-- ---- names

-- what a definition's name means: how many parameters it has, and what a use gives if any can be right
pub record Meaning : Type 0 where
  pub arity : ℕ
  pub told : Option Told

abbrev pub Meanings : Type 0
Meanings = List ℕ → Option Meaning

-- the place of a parameter: of equal parameters the first counts
abbrev pub place_of : List (List ℕ) → List ℕ → Option ℕ
place_of ps x = position (bytes_eq x) ps

abbrev pub may_bind : List Def → List (List ℕ) → Bound → Bool
may_bind table ps x = not (is_some (position (λ d. bytes_eq x.name d.name) table)) && not (is_some (place_of ps x.name))

abbrev pub may_bind_all : List Def → List (List ℕ) → List Bound → Bool
may_bind_all table ps xs = list_all (may_bind table ps) xs

-- a use with its arguments
abbrev pub used : ℕ → Meaning → List (Option Summary) → Option Summary
used depth m us = option_and_then (λ us. option_and_then (λ t. substituted t depth us) m.told) (all_of us)

abbrev pub named : Option ℕ → Option Meaning → ℕ → Option Summary
named (Some p) m d = Some (parameter p d)
named None (Some m) d = used d m []
named None None d = Some (leaf d)

-- ---- readings

-- a tree: the name and the depth of its place where it is a name, its summary, and the arguments that it is
pub record Reading : Type 0 where
  pub name : Option (ℕ × List ℕ)
  pub tree : Option Summary
  pub arguments : List (Option Summary)

-- a form after an operand: its arguments where it is an application, its place, and the tree in it
pub record Form : Type 0 where
  pub arguments : Option (List (Option Summary))
  pub depth : ℕ
  pub operand : Option (Option Summary)

-- a link of a chain
pub record Side : Type 0 where
  pub comma : Bool
  pub operator : Operator
  pub depth : ℕ
  pub operand : Option Summary

abbrev pub plain : Option Summary → Reading
plain u = record { name = None; tree = u; arguments = u ∷ [] }

abbrev pub with_side : Side → Option Parts → Option Parts
with_side l o = with_part (operand_sort l.operator) l.operand (with_place l.depth o)

abbrev pub with_sides : List Side → Option Parts → Option Parts
with_sides [] o = o
with_sides (l ∷ ls) o = with_sides ls (with_side l o)

-- the first operand is what the first operator asks for
abbrev pub chain : Option Summary → List Side → Option Summary
chain u [] = None
chain u (l ∷ ls) = formed (chain_sort l.operator) (with_sides (l ∷ ls) (with_part (operand_sort l.operator) u (start node)))

-- operands between commas are arguments
abbrev pub chain_arguments : Reading → List Side → List (Option Summary)
chain_arguments r ls = if list_all (λ l. l.comma) ls then r.tree ∷ map (λ l. l.operand) ls else chain r.tree ls ∷ []

abbrev pub with_operand : Option (Option Summary) → Option Parts → Option Parts
with_operand None o = o
with_operand (Some u) o = with_part sort.Expression u o

abbrev pub with_form : Form → Option Parts → Option Parts
with_form f o = with_operand f.operand (with_place f.depth o)

abbrev pub with_forms : List Form → Option Parts → Option Parts
with_forms [] o = o
with_forms (f ∷ fs) o = with_forms fs (with_form f o)

abbrev pub plain_row : Option Summary → List Form → Option Summary
plain_row u fs = formed sort.Expression (with_forms fs (with_part sort.Expression u (start node)))

-- without forms a use stands alone
abbrev pub row_of : Option Summary → List Form → Option Summary
row_of u [] = u
row_of u (f ∷ fs) = plain_row u (f ∷ fs)

-- the definition with parameters that a name means, with the depth of the name's place
abbrev pub called : List (List ℕ) → Meanings → Option (ℕ × List ℕ) → Option (ℕ × Meaning)
called ps means n = option_and_then (λ n. if is_some (place_of ps n.1) then None else option_and_then (λ m. if m.arity == 0 then None else Some (n.0, m)) (means n.1)) n

abbrev pub first_arguments : List Form → Option (List (Option Summary))
first_arguments [] = None
first_arguments (f ∷ fs) = f.arguments

abbrev pub later_forms : List Form → List Form
later_forms [] = []
later_forms (f ∷ fs) = fs

abbrev pub applied : ℕ × Meaning → Option (List (Option Summary)) → Reading → List Form → Option Summary
applied m (Some us) r fs = row_of (used m.0 m.1 us) (later_forms fs)
applied m None r fs = plain_row r.tree fs

abbrev pub row : Option (ℕ × Meaning) → Reading → List Form → Option Summary
row (Some m) r fs = applied m (first_arguments fs) r fs
row None r fs = plain_row r.tree fs

abbrev pub trees : List Reading → List (Option Summary)
trees rs = map (λ r. r.tree) rs

-- ---- a tree

abbrev pub after_step : After-F Form Reading Side → Form
after_step (After-F.Converse at) = record { arguments = None; depth = at.depth; operand = None }
after_step (After-F.Apply at r) = record { arguments = Some r.arguments; depth = at.depth; operand = Some r.tree }
after_step (After-F.Image at r) = record { arguments = None; depth = at.depth; operand = Some r.tree }

abbrev pub link_step : Link-F Form Reading Side → Side
link_step l = record { comma = is_comma l.operator; operator = expanded_operator l.operator; depth = l.at.depth; operand = l.operand.tree }

abbrev pub formula_step : List Def → List (List ℕ) → Meanings → Formula-F Form Reading Side → Reading
formula_step table ps means (Formula-F.Number at k) = plain (Some (leaf at.depth))
formula_step table ps means (Formula-F.Text at x) = plain (Some (leaf at.depth))
formula_step table ps means (Formula-F.Name at x) = record (plain (named (place_of ps x) (means x) at.depth)) { name = Some (at.depth, x) }
formula_step table ps means (Formula-F.Old at x) = plain (Some (leaf at.depth))
formula_step table ps means (Formula-F.Constant at c) = plain (Some (leaf at.depth))
formula_step table ps means (Formula-F.Negative at r) = plain (formed sort.Expression (with_part sort.Expression r.tree (start (place_size 1 at.depth))))
formula_step table ps means (Formula-F.Chain r ls) = record (plain (chain r.tree ls)) { arguments = chain_arguments r ls }
formula_step table ps means (Formula-F.Row r fs) = plain (row (called ps means r.name) r fs)
formula_step table ps means (Formula-F.Call at f rs) = plain (formed (call_sort f) (with_all (argument_sort f) (trees rs) (start (place_size 1 at.depth))))
formula_step table ps means (Formula-F.Set at rs) = plain (formed sort.Expression (with_all sort.Expression (trees rs) (start (place_size 1 at.depth))))
formula_step table ps means (Formula-F.Sequence at rs) = plain (formed sort.Expression (with_all sort.Expression (trees rs) (start (place_size 1 at.depth))))
formula_step table ps means (Formula-F.Comprehension at xs r) = plain (if may_bind_all table ps xs then formed sort.Expression (with_part sort.Predicate r.tree (start (place_size 1 (names_depth at xs)))) else None)
formula_step table ps means (Formula-F.Quantified at q xs r) = plain (if may_bind_all table ps xs then formed sort.Predicate (with_part (body_sort q) r.tree (start (place_size 1 (names_depth at xs)))) else None)
formula_step table ps means (Formula-F.Collected at c xs q r) = plain (if may_bind_all table ps xs then formed sort.Expression (with_part sort.Expression r.tree (with_part sort.Predicate q.tree (start (place_size 1 (names_depth at xs))))) else None)
formula_step table ps means (Formula-F.If at p q r) = plain (formed sort.Expression (with_part sort.Expression r.tree (with_part sort.Expression q.tree (with_part sort.Predicate p.tree (start (place_size 1 at.depth))))))

abbrev pub reading : List Def → List (List ℕ) → Meanings → Formula → Reading
reading table ps means = fold-Formula Form Reading Side after_step (formula_step table ps means) link_step

abbrev pub form_of : List Def → List (List ℕ) → Meanings → After → Form
form_of table ps means = fold-After Form Reading Side after_step (formula_step table ps means) link_step

abbrev pub side_of : List Def → List (List ℕ) → Meanings → Link → Side
side_of table ps means = fold-Link Form Reading Side after_step (formula_step table ps means) link_step

abbrev pub summary : List Def → List (List ℕ) → Meanings → Formula → Option Summary
summary table ps means t = (reading table ps means t).tree

-- ---- the table

-- what a use of a definition gives; a substitution is no formula
abbrev pub told_body : List Def → List (List ℕ) → Meanings → DefBody → Option Told
told_body table ps means (body.Expr e) = told_of ps (asking sort.Expression) (summary table ps means e.formula)
told_body table ps means (body.Pred p) = told_of ps (asking sort.Predicate) (summary table ps means p.formula)
told_body table ps means (body.Subst u) = None

abbrev pub meaning_of : List Def → Meanings → List (List ℕ) → DefBody → Meaning
meaning_of table means ps b = record { arity = length ps; told = told_body table ps means b }

abbrev pub first_of : Option Meaning → Option Meaning → Option Meaning
first_of (Some m) o = Some m
first_of None o = o

-- what names mean after one more definition
abbrev pub with_definition : List Def → Meanings → Def → Meanings
with_definition table means d x = first_of (means x) (if bytes_eq x d.name then Some (meaning_of table means d.params d.body) else None)

-- what names mean after some definitions
abbrev pub meanings : List Def → List Def → Meanings
meanings table ds = fold (with_definition table) (λ x. None) ds
