-- The substitution that a substitution stands for once its definitions are expanded. Its formulas are expanded as any are.
use Rattle.std.specs.Prelude.{ℕ, ◌==◌, length, if◌then◌else◌, List, [], ◌∷◌, map, fold, bytes_eq, Option, Some, None, is_some, option_map, option_and_then}
use Rattle.b_ast.specs.declared.Bound.{Bound}
use Rattle.b_ast.specs.declared.Sort.{Sort}
use Rattle.b_ast.specs.declared.Sort.TheVariants as sort
use Rattle.b_ast.specs.declared.Formula.{Formula}
use Rattle.b_ast.specs.declared.machine.Def.{Def}
use Rattle.b_ast.specs.declared.machine.DefBody.{DefBody}
use Rattle.b_ast.specs.declared.machine.DefBody.TheVariants as body
use Rattle.b_ast.specs.declared.machine.Subst.{Subst, fold-Subst}
use Rattle.b_ast.specs.declared.machine.Subst.TheVariants as subst
use Rattle.b_ast.specs.declared.machine.Subst.TheOpen.{Subst-F, Branch-F, CaseBranch-F, Step-F}
use Rattle.b_ast.specs.declared.machine.Branch.{Branch, fold-Branch, roll-Branch}
use Rattle.b_ast.specs.declared.machine.CaseBranch.{CaseBranch, fold-CaseBranch, roll-CaseBranch}
use Rattle.b_ast.specs.declared.machine.Step.{Step, fold-Step, roll-Step}
use Rattle.b_expand.specs.Places.{brackets, deeper_place, deeper_bound}
use Rattle.b_expand.specs.Expansion as formulas
use Rattle.b_expand.specs.Expansion.{Scope, Expands, tree_of, both, all_three, all_of, bound, of_sort, sorted, expanded, reading, alone}

-- ---- what names mean where a substitution may stand

-- what a definition's name means at its uses: the parameters, and the body's substitution in a scope
pub record Meaning : Type 0 where
  pub params : List (List ℕ)
  pub body : Expands Subst

-- what names mean: nothing, or a definition
abbrev pub Meanings : Type 0
Meanings = List ℕ → Option Meaning

-- the definition that a name means where it is no parameter
abbrev pub called : Meanings → Scope → List ℕ → Option Meaning
called others s x = if is_some (tree_of s x) then None else others x

-- a use, at a place with so many brackets open, of a definition with as many parameters as there are trees
abbrev pub used_with : ℕ → Meaning → Scope → List Formula → Option Subst
used_with depth m s es = if length es == length m.params then m.body (record { round = brackets (brackets s.round depth) 1; params = m.params; trees = es }) else None

-- a use with its arguments, each of which expands and has a sort
abbrev pub used : ℕ → Option Meaning → Scope → List (Option Formula) → Option Subst
used depth m s args = option_and_then (λ m. option_and_then (used_with depth m s) (all_of (map sorted args))) m

-- the formula in the brackets of a use is one or several arguments; without brackets there are none
abbrev pub arguments_by : {X : Type 0} → (Formula → List X) → List Formula → List X
arguments_by f [] = []
arguments_by f (e ∷ es) = f e

-- ---- names that are written to

-- they are never expanded
abbrev pub targets : Scope → List Bound → List Bound
targets s xs = map (deeper_bound s.round) xs

-- ---- parts

-- a part that may be absent
abbrev pub perhaps : {X : Type 0} → Option (Expands X) → Scope → Option (Option X)
perhaps None s = Some None
perhaps (Some e) s = option_map Some (e s)

abbrev pub all_at : {X : Type 0} → List (Expands X) → Scope → Option (List X)
all_at es s = all_of (map (λ e. e s) es)

-- ---- by the table, and what names mean where formulas and where substitutions may stand

module _ (table : List Def) (means : formulas.Meanings) (others : Meanings) where
  -- a formula of the wanted sort
  abbrev pub formula_in : Sort → Scope → Formula → Option Formula
  formula_in wanted s e = of_sort wanted (expanded table means s e)

  abbrev pub expression : Scope → Formula → Option Formula
  expression = formula_in sort.Expression

  abbrev pub predicate : Scope → Formula → Option Formula
  predicate = formula_in sort.Predicate

  abbrev pub expressions : Scope → List Formula → Option (List Formula)
  expressions s es = all_of (map (expression s) es)

  abbrev pub arguments : Scope → List Formula → List (Option Formula)
  arguments s es = map (λ a. a s) (arguments_by (λ e. (reading table means e).arguments) es)

  -- a predicate and a substitution
  abbrev pub branch_step : Branch-F (Expands Subst) (Expands Branch) (Expands CaseBranch) (Expands Step) → Expands Branch
  branch_step b s = both (λ p u. roll-Branch (record { guard = p; body = u })) (predicate s b.guard) (b.body s)

  -- labels and a substitution
  abbrev pub case_branch_step : CaseBranch-F (Expands Subst) (Expands Branch) (Expands CaseBranch) (Expands Step) → Expands CaseBranch
  case_branch_step b s = both (λ es u. roll-CaseBranch (record { labels = es; body = u })) (expressions s b.labels) (b.body s)

  -- `||` or `;` and a right side
  abbrev pub step_step : Step-F (Expands Subst) (Expands Branch) (Expands CaseBranch) (Expands Step) → Expands Step
  step_step k s = option_map (λ u. roll-Step (record { joint = k.joint; at = deeper_place s.round k.at; body = u })) (k.body s)

  abbrev pub subst_step : Subst-F (Expands Subst) (Expands Branch) (Expands CaseBranch) (Expands Step) → Expands Subst
  subst_step (Subst-F.Skip at) s = Some (subst.Skip (deeper_place s.round at))
  subst_step (Subst-F.Block at r) s = option_map (subst.Block (deeper_place s.round at)) (r s)
  subst_step (Subst-F.Assign at xs es) s = option_map (subst.Assign (deeper_place s.round at) (targets s xs)) (expressions s es)
  subst_step (Subst-F.Update at x e f) s = both (subst.Update (deeper_place s.round at) (deeper_bound s.round x)) (expression s e) (expression s f)
  subst_step (Subst-F.ChooseFrom at x e) s = option_map (subst.ChooseFrom (deeper_place s.round at) (deeper_bound s.round x)) (expression s e)
  subst_step (Subst-F.ChooseSuch at xs p) s = option_map (subst.ChooseSuch (deeper_place s.round at) (targets s xs)) (predicate s p)
  subst_step (Subst-F.Guarded at g p r) s = both (subst.Guarded (deeper_place s.round at) g) (predicate s p) (r s)
  subst_step (Subst-F.If at bs o) s = both (subst.If (deeper_place s.round at)) (all_at bs s) (perhaps o s)
  subst_step (Subst-F.Select at bs o) s = both (subst.Select (deeper_place s.round at)) (all_at bs s) (perhaps o s)
  subst_step (Subst-F.Choice at rs) s = option_map (subst.Choice (deeper_place s.round at)) (all_at rs s)
  subst_step (Subst-F.Case at e bs o) s = all_three (subst.Case (deeper_place s.round at)) (expression s e) (all_at bs s) (perhaps o s)
  subst_step (Subst-F.Any at xs p r) s = all_three (subst.Any (deeper_place s.round at)) (bound table s xs) (predicate s p) (r s)
  subst_step (Subst-F.Let at xs es r) s = all_three (subst.Let (deeper_place s.round at)) (bound table s xs) (expressions s es) (r s)
  subst_step (Subst-F.Chain r ks) s = both subst.Chain (r s) (all_at ks s)
  subst_step (Subst-F.Use at x es) s = used at.depth (called others s x) s (arguments s es)

  -- the substitution that a substitution stands for in a scope
  abbrev pub expanded_subst : Subst → Expands Subst
  expanded_subst = fold-Subst (Expands Subst) (Expands Branch) (Expands CaseBranch) (Expands Step) subst_step branch_step case_branch_step step_step

  abbrev pub expanded_branch : Branch → Expands Branch
  expanded_branch = fold-Branch (Expands Subst) (Expands Branch) (Expands CaseBranch) (Expands Step) subst_step branch_step case_branch_step step_step

  abbrev pub expanded_case : CaseBranch → Expands CaseBranch
  expanded_case = fold-CaseBranch (Expands Subst) (Expands Branch) (Expands CaseBranch) (Expands Step) subst_step branch_step case_branch_step step_step

  abbrev pub expanded_step : Step → Expands Step
  expanded_step = fold-Step (Expands Subst) (Expands Branch) (Expands CaseBranch) (Expands Step) subst_step branch_step case_branch_step step_step

-- ---- the table: a body knows the definitions before it, and of two definitions of a name the first counts

-- what names mean after some definitions, where a formula and where a substitution may stand
pub record Known : Type 0 where
  pub formulas : formulas.Meanings
  pub uses : Meanings

-- a substitution is expanded where the definition is used; a formula is no substitution
abbrev pub meaning_of : List Def → Known → List (List ℕ) → DefBody → Meaning
meaning_of table k ps (body.Subst u) = record { params = ps; body = λ s. expanded_subst table k.formulas k.uses u s }
meaning_of table k ps b = record { params = ps; body = λ s. None }

abbrev pub first_of : Option Meaning → Option Meaning → Option Meaning
first_of (Some m) o = Some m
first_of None o = o

-- after one more definition
abbrev pub with_definition : List Def → Known → Def → Known
with_definition table k d = record {
  formulas = formulas.with_definition table k.formulas d;
  uses = λ x. first_of (k.uses x) (if bytes_eq x d.name then Some (meaning_of table k d.params d.body) else None);
}

abbrev pub nothing_known : Known
nothing_known = record { formulas = λ x. None; uses = λ x. None }

-- after some definitions
abbrev pub known : List Def → List Def → Known
known table ds = fold (with_definition table) nothing_known ds

-- the substitution that a substitution stands for
abbrev pub subst_expansion : List Def → Subst → Option Subst
subst_expansion table u = expanded_subst table (known table table).formulas (known table table).uses u alone
