-- The substitution that a substitution becomes when its definitions are put in, without a look at whether they may be, and
-- how many steps that takes.
use Rattle.std.specs.Prelude.{ℕ, false, ◌+◌, if◌then◌else◌, List, [], ◌∷◌, map, fold, position, bytes_eq, Option, Some, None, is_some}
use Rattle.b_ast.specs.declared.Place.{Place}
use Rattle.b_ast.specs.declared.Bound.{Bound}
use Rattle.b_ast.specs.declared.Formula.{Formula}
use Rattle.b_ast.specs.declared.machine.Def.{Def}
use Rattle.b_ast.specs.declared.machine.DefBody.{DefBody}
use Rattle.b_ast.specs.declared.machine.DefBody.TheVariants as body
use Rattle.b_ast.specs.declared.machine.Subst.{Subst, fold-Subst}
use Rattle.b_ast.specs.declared.machine.Subst.TheVariants as subst
use Rattle.b_ast.specs.declared.machine.Subst.TheOpen.{Subst-F, Branch-F, CaseBranch-F, Step-F}
use Rattle.b_ast.specs.declared.machine.Branch.{Branch, fold-Branch, roll-Branch}
use Rattle.b_ast.specs.declared.machine.CaseBranch.{CaseBranch, fold-CaseBranch, roll-CaseBranch}
use Rattle.b_ast.specs.declared.machine.Step.{Step, fold-Step, roll-Step}
use Rattle.b_expand.specs.Places.{brackets, deeper_place, deeper_bound}
use Rattle.b_expand.specs.Expansion.{Scope, alone}
use Rattle.b_expand.specs.Filling as formulas
use Rattle.b_substitutions.specs.Expansion.{arguments_by, targets}

-- ---- what names mean where a substitution may stand

-- what a definition's name means at its uses: the parameters, the body's substitution, and its steps
pub record Insert : Type 0 where
  pub params : List (List ℕ)
  pub body : Scope → Subst
  pub steps : ℕ

-- what names mean: nothing, or a definition
abbrev pub Inserts : Type 0
Inserts = List ℕ → Option Insert

-- what stands for what is no substitution
abbrev pub nothing : Subst
nothing = subst.Skip (record { machine = false; at = 0; depth = 0 })

-- the definition that a name means where it is no parameter
abbrev pub called : Inserts → List (List ℕ) → List ℕ → Option Insert
called uses ps x = if is_some (position (bytes_eq x) ps) then None else uses x

-- a use, at a place with so many brackets open, with the trees of its arguments
abbrev pub used : ℕ → Option Insert → Scope → List Formula → Subst
used depth None s es = nothing
used depth (Some m) s es = m.body (record { round = brackets (brackets s.round depth) 1; params = m.params; trees = es })

-- ---- parts

abbrev pub Fills : Type 0 → Type 0
Fills X = Scope → X

-- a part that may be absent
abbrev pub perhaps : {X : Type 0} → Option (Fills X) → Scope → Option X
perhaps None s = None
perhaps (Some f) s = Some (f s)

abbrev pub all_at : {X : Type 0} → List (Fills X) → Scope → List X
all_at fs s = map (λ f. f s) fs

-- ---- by what names mean where formulas and where substitutions may stand

module _ (means : formulas.Inserts) (uses : Inserts) where
  abbrev pub formula : Scope → Formula → Formula
  formula s e = (formulas.filling means e).part.tree s

  abbrev pub all_formulas : Scope → List Formula → List Formula
  all_formulas s es = map (formula s) es

  -- the trees of the arguments in the brackets of a use
  abbrev pub arguments : Scope → List Formula → List Formula
  arguments s es = formulas.trees_of (arguments_by (λ e. (formulas.filling means e).arguments) es) s

  abbrev pub branch_step : Branch-F (Fills Subst) (Fills Branch) (Fills CaseBranch) (Fills Step) → Fills Branch
  branch_step b s = roll-Branch (record { guard = formula s b.guard; body = b.body s })

  abbrev pub case_step : CaseBranch-F (Fills Subst) (Fills Branch) (Fills CaseBranch) (Fills Step) → Fills CaseBranch
  case_step b s = roll-CaseBranch (record { labels = all_formulas s b.labels; body = b.body s })

  abbrev pub step_step : Step-F (Fills Subst) (Fills Branch) (Fills CaseBranch) (Fills Step) → Fills Step
  step_step k s = roll-Step (record { joint = k.joint; at = deeper_place s.round k.at; body = k.body s })

  abbrev pub subst_step : Subst-F (Fills Subst) (Fills Branch) (Fills CaseBranch) (Fills Step) → Fills Subst
  subst_step (Subst-F.Skip at) s = subst.Skip (deeper_place s.round at)
  subst_step (Subst-F.Block at r) s = subst.Block (deeper_place s.round at) (r s)
  subst_step (Subst-F.Assign at xs es) s = subst.Assign (deeper_place s.round at) (targets s xs) (all_formulas s es)
  subst_step (Subst-F.Update at x e f) s = subst.Update (deeper_place s.round at) (deeper_bound s.round x) (formula s e) (formula s f)
  subst_step (Subst-F.ChooseFrom at x e) s = subst.ChooseFrom (deeper_place s.round at) (deeper_bound s.round x) (formula s e)
  subst_step (Subst-F.ChooseSuch at xs p) s = subst.ChooseSuch (deeper_place s.round at) (targets s xs) (formula s p)
  subst_step (Subst-F.Guarded at g p r) s = subst.Guarded (deeper_place s.round at) g (formula s p) (r s)
  subst_step (Subst-F.If at bs o) s = subst.If (deeper_place s.round at) (all_at bs s) (perhaps o s)
  subst_step (Subst-F.Select at bs o) s = subst.Select (deeper_place s.round at) (all_at bs s) (perhaps o s)
  subst_step (Subst-F.Choice at rs) s = subst.Choice (deeper_place s.round at) (all_at rs s)
  subst_step (Subst-F.Case at e bs o) s = subst.Case (deeper_place s.round at) (formula s e) (all_at bs s) (perhaps o s)
  subst_step (Subst-F.Any at xs p r) s = subst.Any (deeper_place s.round at) (targets s xs) (formula s p) (r s)
  subst_step (Subst-F.Let at xs es r) s = subst.Let (deeper_place s.round at) (targets s xs) (all_formulas s es) (r s)
  subst_step (Subst-F.Chain r ks) s = subst.Chain (r s) (all_at ks s)
  subst_step (Subst-F.Use at x es) s = used at.depth (called uses s.params x) s (arguments s es)

  -- the substitution that a substitution becomes in a scope
  abbrev pub filled_subst : Subst → Fills Subst
  filled_subst = fold-Subst (Fills Subst) (Fills Branch) (Fills CaseBranch) (Fills Step) subst_step branch_step case_step step_step

  abbrev pub filled_branch : Branch → Fills Branch
  filled_branch = fold-Branch (Fills Subst) (Fills Branch) (Fills CaseBranch) (Fills Step) subst_step branch_step case_step step_step

  abbrev pub filled_case : CaseBranch → Fills CaseBranch
  filled_case = fold-CaseBranch (Fills Subst) (Fills Branch) (Fills CaseBranch) (Fills Step) subst_step branch_step case_step step_step

  abbrev pub filled_step : Step → Fills Step
  filled_step = fold-Step (Fills Subst) (Fills Branch) (Fills CaseBranch) (Fills Step) subst_step branch_step case_step step_step

-- ---- steps

abbrev pub or_none : Option ℕ → ℕ
or_none None = 0
or_none (Some n) = n

abbrev pub total : List ℕ → ℕ
total [] = 0
total (n ∷ ns) = n + total ns

-- those of a definition's body
abbrev pub used_steps : Option Insert → ℕ
used_steps None = 0
used_steps (Some m) = m.steps

abbrev pub branch_steps : Branch-F ℕ ℕ ℕ ℕ → ℕ
branch_steps b = b.body

abbrev pub case_steps : CaseBranch-F ℕ ℕ ℕ ℕ → ℕ
case_steps b = b.body

abbrev pub step_steps : Step-F ℕ ℕ ℕ ℕ → ℕ
step_steps k = k.body

-- one for each form
abbrev pub subst_steps : Inserts → Subst-F ℕ ℕ ℕ ℕ → ℕ
subst_steps uses (Subst-F.Skip at) = 1
subst_steps uses (Subst-F.Block at n) = 1 + n
subst_steps uses (Subst-F.Assign at xs es) = 1
subst_steps uses (Subst-F.Update at x e f) = 1
subst_steps uses (Subst-F.ChooseFrom at x e) = 1
subst_steps uses (Subst-F.ChooseSuch at xs p) = 1
subst_steps uses (Subst-F.Guarded at g p n) = 1 + n
subst_steps uses (Subst-F.If at ns o) = 1 + (total ns + or_none o)
subst_steps uses (Subst-F.Select at ns o) = 1 + (total ns + or_none o)
subst_steps uses (Subst-F.Choice at ns) = 1 + total ns
subst_steps uses (Subst-F.Case at e ns o) = 1 + (total ns + or_none o)
subst_steps uses (Subst-F.Any at xs p n) = 1 + n
subst_steps uses (Subst-F.Let at xs es n) = 1 + n
subst_steps uses (Subst-F.Chain n ns) = 1 + (n + total ns)
subst_steps uses (Subst-F.Use at x es) = 1 + used_steps (uses x)

abbrev pub steps_of : Inserts → Subst → ℕ
steps_of uses = fold-Subst ℕ ℕ ℕ ℕ (subst_steps uses) branch_steps case_steps step_steps

abbrev pub steps_of_branch : Inserts → Branch → ℕ
steps_of_branch uses = fold-Branch ℕ ℕ ℕ ℕ (subst_steps uses) branch_steps case_steps step_steps

abbrev pub steps_of_case : Inserts → CaseBranch → ℕ
steps_of_case uses = fold-CaseBranch ℕ ℕ ℕ ℕ (subst_steps uses) branch_steps case_steps step_steps

abbrev pub steps_of_step : Inserts → Step → ℕ
steps_of_step uses = fold-Step ℕ ℕ ℕ ℕ (subst_steps uses) branch_steps case_steps step_steps

-- ---- the table

-- what names mean after some definitions, where a formula and where a substitution may stand
pub record Known : Type 0 where
  pub formulas : formulas.Inserts
  pub uses : Inserts

-- a definition's substitution
abbrev pub insert_of : formulas.Inserts → Inserts → List (List ℕ) → DefBody → Insert
insert_of means uses ps (body.Subst u) = record { params = ps; body = filled_subst means uses u; steps = steps_of uses u }
insert_of means uses ps b = record { params = ps; body = λ s. nothing; steps = 0 }

abbrev pub first_of : Option Insert → Option Insert → Option Insert
first_of (Some m) o = Some m
first_of None o = o

-- after one more definition
abbrev pub with_definition : Known → Def → Known
with_definition k d = record {
  formulas = formulas.with_definition k.formulas d;
  uses = λ x. first_of (k.uses x) (if bytes_eq x d.name then Some (insert_of k.formulas k.uses d.params d.body) else None);
}

abbrev pub nothing_known : Known
nothing_known = record { formulas = λ x. None; uses = λ x. None }

-- after some definitions
abbrev pub known : List Def → Known
known ds = fold with_definition nothing_known ds

-- the substitution with its definitions put in
abbrev pub filled : List Def → Subst → Subst
filled ds u = filled_subst (known ds).formulas (known ds).uses u alone
