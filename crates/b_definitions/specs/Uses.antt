-- Which definitions of a table a body uses, and circles of uses.
use Rattle.std.specs.Prelude.{ℕ, ◌==◌, Bool, false, ◌&&◌, if◌then◌else◌, List, [], ◌∷◌, ◌++◌, map, position, bytes_eq, slice_get, Option, Some, None, is_some, unwrap_or}
use Rattle.std.specs.List.{list_any}
use Rattle.b_ast.specs.declared.Bound.{Bound}
use Rattle.b_ast.specs.declared.machine.Def.{Def}
use Rattle.b_ast.specs.declared.machine.DefBody.{DefBody}
use Rattle.b_ast.specs.declared.machine.DefBody.TheVariants as body
use Rattle.b_ast.specs.declared.Formula.{Formula, fold-Formula}
use Rattle.b_ast.specs.declared.Link.{Link, fold-Link}
use Rattle.b_ast.specs.declared.After.{After, fold-After}
use Rattle.b_ast.specs.declared.After.TheOpen.{Formula-F, Link-F, After-F}
use Rattle.b_ast.specs.declared.machine.Subst.{Subst, fold-Subst}
use Rattle.b_ast.specs.declared.machine.Subst.TheOpen.{Subst-F, Branch-F, CaseBranch-F, Step-F}
use Rattle.b_ast.specs.declared.machine.Branch.{Branch, fold-Branch}
use Rattle.b_ast.specs.declared.machine.CaseBranch.{CaseBranch, fold-CaseBranch}
use Rattle.b_ast.specs.declared.machine.Step.{Step, fold-Step}
use Rattle.b_names.specs.Index.{place_of}

-- one list after the other
abbrev pub joined : List (List ℕ) → List ℕ
joined [] = []
joined (xs ∷ xss) = xs ++ joined xss

abbrev pub listed : Option ℕ → List ℕ
listed None = []
listed (Some i) = i ∷ []

-- the definition that a name means, where it is no parameter
abbrev pub meant : List Def → List (List ℕ) → List ℕ → Option ℕ
meant table ps x = if is_some (position (bytes_eq x) ps) then None else place_of table x

-- whether one of some bound names is a definition's
abbrev pub binds : List Def → List Bound → Bool
binds table ns = list_any (λ n. is_some (place_of table n.name)) ns

-- a form that binds a definition's name is no sentence, and uses nothing
abbrev pub unless : Bool → List ℕ → List ℕ
unless b xs = if b then [] else xs

abbrev pub after_step : After-F (List ℕ) (List ℕ) (List ℕ) → List ℕ
after_step (After-F.Converse at) = []
after_step (After-F.Apply at xs) = xs
after_step (After-F.Image at xs) = xs

abbrev pub link_step : Link-F (List ℕ) (List ℕ) (List ℕ) → List ℕ
link_step l = l.operand

abbrev pub formula_step : List Def → List (List ℕ) → Formula-F (List ℕ) (List ℕ) (List ℕ) → List ℕ
formula_step table ps (Formula-F.Number at n) = []
formula_step table ps (Formula-F.Text at x) = []
formula_step table ps (Formula-F.Name at x) = listed (meant table ps x)
formula_step table ps (Formula-F.Old at x) = []
formula_step table ps (Formula-F.Constant at c) = []
formula_step table ps (Formula-F.Negative at xs) = xs
formula_step table ps (Formula-F.Chain xs xss) = xs ++ joined xss
formula_step table ps (Formula-F.Row xs xss) = xs ++ joined xss
formula_step table ps (Formula-F.Call at f xss) = joined xss
formula_step table ps (Formula-F.Set at xss) = joined xss
formula_step table ps (Formula-F.Sequence at xss) = joined xss
formula_step table ps (Formula-F.Comprehension at ns xs) = unless (binds table ns) xs
formula_step table ps (Formula-F.Quantified at q ns xs) = unless (binds table ns) xs
formula_step table ps (Formula-F.Collected at c ns xs ys) = unless (binds table ns) (xs ++ ys)
formula_step table ps (Formula-F.If at xs ys zs) = xs ++ (ys ++ zs)

-- the places of the definitions whose names stand in a tree, in order
abbrev pub used_in : List Def → List (List ℕ) → Formula → List ℕ
used_in table ps = fold-Formula (List ℕ) (List ℕ) (List ℕ) after_step (formula_step table ps) link_step

abbrev pub used_in_link : List Def → List (List ℕ) → Link → List ℕ
used_in_link table ps = fold-Link (List ℕ) (List ℕ) (List ℕ) after_step (formula_step table ps) link_step

abbrev pub used_in_form : List Def → List (List ℕ) → After → List ℕ
used_in_form table ps = fold-After (List ℕ) (List ℕ) (List ℕ) after_step (formula_step table ps) link_step

abbrev pub used_in_all : List Def → List (List ℕ) → List Formula → List ℕ
used_in_all table ps es = joined (map (used_in table ps) es)

-- ---- substitutions: names that are written to are no uses

abbrev pub in_part : Option (List ℕ) → List ℕ
in_part None = []
in_part (Some xs) = xs

abbrev pub branch_step : List Def → List (List ℕ) → Branch-F (List ℕ) (List ℕ) (List ℕ) (List ℕ) → List ℕ
branch_step table ps b = used_in table ps b.guard ++ b.body

abbrev pub case_step : List Def → List (List ℕ) → CaseBranch-F (List ℕ) (List ℕ) (List ℕ) (List ℕ) → List ℕ
case_step table ps b = used_in_all table ps b.labels ++ b.body

abbrev pub step_step : Step-F (List ℕ) (List ℕ) (List ℕ) (List ℕ) → List ℕ
step_step k = k.body

abbrev pub subst_step : List Def → List (List ℕ) → Subst-F (List ℕ) (List ℕ) (List ℕ) (List ℕ) → List ℕ
subst_step table ps (Subst-F.Skip at) = []
subst_step table ps (Subst-F.Block at xs) = xs
subst_step table ps (Subst-F.Assign at ns es) = used_in_all table ps es
subst_step table ps (Subst-F.Update at n e f) = used_in table ps e ++ used_in table ps f
subst_step table ps (Subst-F.ChooseFrom at n e) = used_in table ps e
subst_step table ps (Subst-F.ChooseSuch at ns p) = used_in table ps p
subst_step table ps (Subst-F.Guarded at g p xs) = used_in table ps p ++ xs
subst_step table ps (Subst-F.If at xss o) = joined xss ++ in_part o
subst_step table ps (Subst-F.Select at xss o) = joined xss ++ in_part o
subst_step table ps (Subst-F.Choice at xss) = joined xss
subst_step table ps (Subst-F.Case at e xss o) = used_in table ps e ++ (joined xss ++ in_part o)
subst_step table ps (Subst-F.Any at ns p xs) = unless (binds table ns) (used_in table ps p ++ xs)
subst_step table ps (Subst-F.Let at ns es xs) = unless (binds table ns) (used_in_all table ps es ++ xs)
subst_step table ps (Subst-F.Chain xs xss) = xs ++ joined xss
subst_step table ps (Subst-F.Use at x es) = listed (meant table ps x) ++ used_in_all table ps es

abbrev pub used_in_subst : List Def → List (List ℕ) → Subst → List ℕ
used_in_subst table ps = fold-Subst (List ℕ) (List ℕ) (List ℕ) (List ℕ) (subst_step table ps) (branch_step table ps) (case_step table ps) step_step

abbrev pub used_in_branch : List Def → List (List ℕ) → Branch → List ℕ
used_in_branch table ps = fold-Branch (List ℕ) (List ℕ) (List ℕ) (List ℕ) (subst_step table ps) (branch_step table ps) (case_step table ps) step_step

abbrev pub used_in_case : List Def → List (List ℕ) → CaseBranch → List ℕ
used_in_case table ps = fold-CaseBranch (List ℕ) (List ℕ) (List ℕ) (List ℕ) (subst_step table ps) (branch_step table ps) (case_step table ps) step_step

abbrev pub used_in_step : List Def → List (List ℕ) → Step → List ℕ
used_in_step table ps = fold-Step (List ℕ) (List ℕ) (List ℕ) (List ℕ) (subst_step table ps) (branch_step table ps) (case_step table ps) step_step

-- ---- tables

abbrev pub used_in_body : List Def → List (List ℕ) → DefBody → List ℕ
used_in_body table ps (body.Expr e) = used_in table ps e.formula
used_in_body table ps (body.Pred p) = used_in table ps p.formula
used_in_body table ps (body.Subst u) = used_in_subst table ps u

-- the definitions that a definition uses
abbrev pub used_by : List Def → Def → List ℕ
used_by table d = used_in_body table d.params d.body

abbrev pub all_uses : List Def → List (List ℕ)
all_uses table = map (used_by table) table

-- ---- circles

-- whether the definition at a place uses that at another
abbrev pub uses : List (List ℕ) → ℕ → ℕ → Bool
uses rows i j = list_any (λ k. k == j) (unwrap_or (slice_get rows i) [])

-- whether each place of a list uses the next, and the last one a last place
abbrev pub leads : List (List ℕ) → ℕ → List ℕ → ℕ → Bool
leads rows i [] last = uses rows i last
leads rows i (j ∷ js) last = uses rows i j && leads rows j js last

-- whether each place of a list uses the next, and the last one the first
abbrev pub is_circle : List (List ℕ) → List ℕ → Bool
is_circle rows [] = false
is_circle rows (i ∷ js) = leads rows i js i
