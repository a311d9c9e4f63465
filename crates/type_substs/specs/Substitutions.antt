-- What a substitution demands of the types of its parts, form by form. Names that are written, bound names and the parts of
-- formulas have types; a substitution has none.
use Rattle.std.specs.Prelude.{ℕ, ◌+◌, List, [], ◌∷◌, Option, Some, None}
use Rattle.b_ast.specs.declared.Bound.{Bound}
use Rattle.b_ast.specs.declared.Formula.{Formula}
use Rattle.b_ast.specs.declared.machine.Subst.{Subst, fold-Subst}
use Rattle.b_ast.specs.declared.machine.Subst.TheOpen.{Subst-F, Branch-F, CaseBranch-F, Step-F}
use Rattle.b_ast.specs.declared.machine.Branch.{Branch, fold-Branch}
use Rattle.b_ast.specs.declared.machine.CaseBranch.{CaseBranch, fold-CaseBranch}
use Rattle.b_ast.specs.declared.machine.Step.{Step, fold-Step}
use Rattle.type_schemes.specs.declared.rules.Rule.TheVariants as rule
use Rattle.type_demands.specs.declared.demands.Demand.TheVariants.{Unknown}
use Rattle.type_demands.specs.Demands.{obeying}
use Rattle.type_demands.specs.Scopes.{names_of}
use Rattle.type_substs.specs.Told.{Told, Tells, with_demand, with_formula, whole_after, with_predicate, with_all_alike, with_values, with_target, with_targets, with_names, inside, with_old}

-- a branch of CASE is told with the part of the value that is compared with its labels
abbrev pub Cases : Type 0
Cases = ℕ → Tells

abbrev pub with_all : List Tells → Tells
with_all [] scope z = z
with_all (f ∷ fs) scope z = with_all fs scope (f scope z)

abbrev pub with_cases : ℕ → List Cases → Tells
with_cases t [] scope z = z
with_cases t (f ∷ fs) scope z = with_cases t fs scope (f t scope z)

abbrev pub with_perhaps : Option Tells → Tells
with_perhaps None scope z = z
with_perhaps (Some f) scope z = f scope z

-- `x,y := E,F`: each value is of its target's type
abbrev pub assigned : List Bound → List Formula → Tells
assigned xs es scope z = with_values z.next es scope (with_targets xs scope z)

-- `f(E) := F`: f is P(a×b), E is a and F is b
abbrev pub updated : Bound → Formula → Formula → Tells
updated f e v scope z =
    let y = with_target f scope z in
    let x = with_formula e scope y in
    with_demand (obeying rule.Application z.next (whole_after e y) (whole_after v x)) (with_formula v scope x)

-- `x :: E`: x is a, E is P(a)
abbrev pub chosen_from : Bound → Formula → Tells
chosen_from x e scope z =
    let y = with_target x scope z in
    with_demand (obeying rule.Singleton z.next z.next (whole_after e y)) (with_formula e scope y)

-- `x,y : (P)`
abbrev pub chosen_such : List Bound → Formula → Tells
chosen_such xs p scope z = with_predicate p (with_old (names_of xs) scope) (with_targets xs scope z)

-- `CASE E OF .. END`: each label is of the type of E
abbrev pub compared : Formula → List Cases → Option Tells → Tells
compared e bs o scope z = with_perhaps o scope (with_cases (whole_after e z) bs scope (with_formula e scope z))

-- `ANY x WHERE P THEN S END`
abbrev pub picked : List Bound → Formula → Tells → Tells
picked xs p s scope z = s (inside xs scope z) (with_predicate p (inside xs scope z) (with_names xs z))

-- `LET x BE x = E IN S END`: E doesn't see x
abbrev pub fixed : List Bound → List Formula → Tells → Tells
fixed xs es s scope z = s (inside xs scope z) (with_values z.next es scope (with_names xs z))

abbrev pub branch_step : Branch-F Tells Tells Cases Tells → Tells
branch_step b scope z = b.body scope (with_predicate b.guard scope z)

abbrev pub case_step : CaseBranch-F Tells Tells Cases Tells → Cases
case_step b t scope z = b.body scope (with_all_alike t b.labels scope z)

abbrev pub joined_step : Step-F Tells Tells Cases Tells → Tells
joined_step k = k.body

-- where definitions are expanded there is no use of one
abbrev pub subst_step : Subst-F Tells Tells Cases Tells → Tells
subst_step (Subst-F.Skip at) scope z = z
subst_step (Subst-F.Block at s) scope z = s scope z
subst_step (Subst-F.Assign at xs es) scope z = assigned xs es scope z
subst_step (Subst-F.Update at f e v) scope z = updated f e v scope z
subst_step (Subst-F.ChooseFrom at x e) scope z = chosen_from x e scope z
subst_step (Subst-F.ChooseSuch at xs p) scope z = chosen_such xs p scope z
subst_step (Subst-F.Guarded at g p s) scope z = s scope (with_predicate p scope z)
subst_step (Subst-F.If at bs o) scope z = with_perhaps o scope (with_all bs scope z)
subst_step (Subst-F.Select at bs o) scope z = with_perhaps o scope (with_all bs scope z)
subst_step (Subst-F.Choice at ss) scope z = with_all ss scope z
subst_step (Subst-F.Case at e bs o) scope z = compared e bs o scope z
subst_step (Subst-F.Any at xs p s) scope z = picked xs p s scope z
subst_step (Subst-F.Let at xs es s) scope z = fixed xs es s scope z
subst_step (Subst-F.Chain s ks) scope z = with_all ks scope (s scope z)
subst_step (Subst-F.Use at x es) scope z = with_demand Unknown z

-- what a substitution tells
abbrev pub subst_told : Subst → Tells
subst_told = fold-Subst Tells Tells Cases Tells subst_step branch_step case_step joined_step

abbrev pub branch_told : Branch → Tells
branch_told = fold-Branch Tells Tells Cases Tells subst_step branch_step case_step joined_step

abbrev pub case_told : CaseBranch → Cases
case_told = fold-CaseBranch Tells Tells Cases Tells subst_step branch_step case_step joined_step

abbrev pub step_told : Step → Tells
step_told = fold-Step Tells Tells Cases Tells subst_step branch_step case_step joined_step
