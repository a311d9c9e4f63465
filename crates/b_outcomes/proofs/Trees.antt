-- What the parts of a substitution mean.
use Rattle.std.proofs.Common.{◌≡◌, ℕ, List, [], map, Option, Some, None, Result, Ok, refl, sym, ap, ◌∙◌, subst, Bor}
use Rattle.std.specs.Prelude.{if◌then◌else◌}
use Rattle.std.specs.List.{AllByRecursion}
use Rattle.b_places.specs.Scopes.{slots_of, slots_layer}
use Rattle.b_values.specs.Values.{IsKept}
use Rattle.b_places.specs.declared.scope.Scope.{Scope, map-Scope, fold_out-Scope}
use Rattle.b_places.specs.declared.scope.Scope.TheVariants.{Slots, outs-Slots}
use Rattle.b_values.specs.declared.values.Value.{Value}
use Rattle.b_meaning.specs.Meaning.{Test, binder_of, holds_of, value_of}
use Rattle.b_meaning.proofs.Trees.{binder_test}
use Rattle.b_rows.specs.Answers.{Answer, bind}
use Rattle.b_rows.specs.declared.EvalStop.{EvalStop}
use Rattle.b_tree.specs.declared.Binder.{Binder, out-Binder}
use Rattle.b_tree.specs.declared.ExprTree.{ExprTree}
use Rattle.b_tree.specs.declared.substitutions.Branch.{Branch, out-Branch, fold_out-Branch}
use Rattle.b_tree.specs.declared.substitutions.CaseBranch.{CaseBranch, out-CaseBranch, fold_out-CaseBranch}
use Rattle.b_tree.specs.declared.substitutions.Guarded.{Guarded, out-Guarded, fold_out-Guarded}
use Rattle.b_tree.specs.declared.substitutions.Selection.{Selection, out-Selection, fold_out-Selection}
use Rattle.b_tree.specs.declared.substitutions.Step.{Step, out-Step, fold_out-Step}
use Rattle.b_tree.specs.declared.substitutions.SubstTree.{SubstTree, out-SubstTree, map-SubstTree, fold_out-SubstTree}
use Rattle.b_tree.specs.declared.substitutions.SubstTree.TheOpen.{SubstTree-F}
use Rattle.b_tree.specs.declared.substitutions.SubstTree.TheVariants as form
use Rattle.b_tree.specs.declared.substitutions.SubstTree.TheVariants.{outs-Guarded, outs-Any, outs-Such, outs-If, outs-Select, outs-Case}
use Rattle.b_outcomes.specs.Gathered.{Gathered, gathers, Leaves}
use Rattle.b_outcomes.specs.declared.frames.Frame.{Frame}
use Rattle.b_outcomes.specs.Outcomes.{any_of, such_that, first_of, all_of, held, labelled, otherwise, Effect, BranchMeaning, CaseMeaning, SelectionMeaning, StepMeaning, effect_step, branch_step, case_step, guarded_step, selection_step, step_step, effect_of, branch_of, case_of, guarded_of, selection_of, step_of}

module _ (n k : ℕ) where
  pub branch_is : (b : Branch) → branch_of n k b ≡ branch_step n k (record { guard = (out-Branch b).guard; body = effect_of n k (out-Branch b).body })
  branch_is b = fold_out-Branch Effect BranchMeaning CaseMeaning BranchMeaning SelectionMeaning StepMeaning (effect_step n k) (branch_step n k) (case_step n k) (guarded_step n k) (selection_step n k) (step_step n k) b

  pub case_is : (c : CaseBranch) → case_of n k c ≡ case_step n k (record { labels = (out-CaseBranch c).labels; body = effect_of n k (out-CaseBranch c).body })
  case_is c = fold_out-CaseBranch Effect BranchMeaning CaseMeaning BranchMeaning SelectionMeaning StepMeaning (effect_step n k) (branch_step n k) (case_step n k) (guarded_step n k) (selection_step n k) (step_step n k) c

  pub guarded_is : (g : Guarded) → guarded_of n k g ≡ guarded_step n k (record { guard = (out-Guarded g).guard; body = effect_of n k (out-Guarded g).body })
  guarded_is g = fold_out-Guarded Effect BranchMeaning CaseMeaning BranchMeaning SelectionMeaning StepMeaning (effect_step n k) (branch_step n k) (case_step n k) (guarded_step n k) (selection_step n k) (step_step n k) g

  pub selection_is : (s : Selection) → selection_of n k s ≡ selection_step n k (record { binder = (out-Selection s).binder; body = effect_of n k (out-Selection s).body })
  selection_is s = fold_out-Selection Effect BranchMeaning CaseMeaning BranchMeaning SelectionMeaning StepMeaning (effect_step n k) (branch_step n k) (case_step n k) (guarded_step n k) (selection_step n k) (step_step n k) s

  pub step_is : (s : Step) → step_of n k s ≡ step_step n k (record { joint = (out-Step s).joint; targets = (out-Step s).targets; body = effect_of n k (out-Step s).body })
  step_is s = fold_out-Step Effect BranchMeaning CaseMeaning BranchMeaning SelectionMeaning StepMeaning (effect_step n k) (branch_step n k) (case_step n k) (guarded_step n k) (selection_step n k) (step_step n k) s

  pub selection_test : (s : Selection) → (selection_of n k s).binder.test ≡ holds_of n (out-Binder (out-Selection s).binder).predicate
  selection_test s = ap (λ (m : SelectionMeaning). m.binder.test) (selection_is s) ∙ binder_test n (out-Selection s).binder

  pub selection_binder : (s : Selection) → (selection_of n k s).binder ≡ binder_of n (out-Selection s).binder
  selection_binder s = ap (λ (m : SelectionMeaning). m.binder) (selection_is s)

  pub step_body : (s : Step) → (step_of n k s).body ≡ effect_of n k (out-Step s).body
  step_body s = ap (λ (m : StepMeaning). m.body) (step_is s)

-- the slots of a scope that isn't inside another
pub flat_slots : (vs : Bor (List Value)) → slots_of (Slots vs) ≡ vs.now
flat_slots vs = fold_out-Scope (List Value) slots_layer (Slots vs) ∙ ap (λ y. slots_layer (map-Scope Scope (List Value) slots_of y)) (outs-Slots vs)

pub kept_flat : (vs : Bor (List Value)) (xs : List Value) → vs.now ≡ xs → AllByRecursion IsKept xs → AllByRecursion IsKept (slots_of (Slots vs))
kept_flat vs xs e k = subst (AllByRecursion IsKept) (sym (flat_slots vs ∙ e)) k

-- ---- forms with one part of a type of its own, as the code meets them

module _ (n k : ℕ) where
  effect_is : (s : SubstTree) (x : SubstTree-F SubstTree Branch CaseBranch Guarded Selection Step) → out-SubstTree s ≡ x
      → effect_of n k s ≡ effect_step n k (map-SubstTree SubstTree Branch CaseBranch Guarded Selection Step Effect BranchMeaning CaseMeaning BranchMeaning SelectionMeaning StepMeaning (effect_of n k) (branch_of n k) (case_of n k) (guarded_of n k) (selection_of n k) (step_of n k) x)
  effect_is s x is =
      fold_out-SubstTree Effect BranchMeaning CaseMeaning BranchMeaning SelectionMeaning StepMeaning (effect_step n k) (branch_step n k) (case_step n k) (guarded_step n k) (selection_step n k) (step_step n k) s
      ∙ ap (λ y. effect_step n k (map-SubstTree SubstTree Branch CaseBranch Guarded Selection Step Effect BranchMeaning CaseMeaning BranchMeaning SelectionMeaning StepMeaning (effect_of n k) (branch_of n k) (case_of n k) (guarded_of n k) (selection_of n k) (step_of n k) y)) is

  module _ {R : Type 0} (g h : Gathered) (s : SubstTree) (f : Frame) (env : List Value) (r : Result R EvalStop) where
    pub guarded_left : (u v : Guarded) → s ≡ form.Guarded u → v ≡ u → Leaves (gathers g (bind ((guarded_of n k v).guard env) (λ b. if b then (guarded_of n k v).body f env else Ok []))) h r → Leaves (gathers g (effect_of n k s f env)) h r
    guarded_left u v is same l =
        subst (λ (e : Effect). Leaves (gathers g (e f env)) h r) (sym (effect_is s (SubstTree-F.Guarded u) (ap out-SubstTree is ∙ outs-Guarded u)))
        (subst (λ (w : Guarded). Leaves (gathers g (bind ((guarded_of n k w).guard env) (λ b. if b then (guarded_of n k w).body f env else Ok []))) h r) same l)

    pub any_left : (u v : Selection) → s ≡ form.Any u → v ≡ u → Leaves (gathers g (any_of n k (selection_of n k v) f env)) h r → Leaves (gathers g (effect_of n k s f env)) h r
    any_left u v is same l =
        subst (λ (e : Effect). Leaves (gathers g (e f env)) h r) (sym (effect_is s (SubstTree-F.Any u) (ap out-SubstTree is ∙ outs-Any u)))
        (subst (λ (w : Selection). Leaves (gathers g (any_of n k (selection_of n k w) f env)) h r) same l)

    pub such_left : (ts us : List ℕ) (b : Binder) → s ≡ form.Such ts b → us ≡ ts → Leaves (gathers g (such_that n k us (binder_of n b) f env)) h r → Leaves (gathers g (effect_of n k s f env)) h r
    such_left ts us b is same l =
        subst (λ (e : Effect). Leaves (gathers g (e f env)) h r) (sym (effect_is s (SubstTree-F.Such ts b) (ap out-SubstTree is ∙ outs-Such ts b)))
        (subst (λ (w : List ℕ). Leaves (gathers g (such_that n k w (binder_of n b) f env)) h r) same l)

  -- ---- forms with branches

  pub if_is : (s : SubstTree) (f : Frame) (env : List Value) (bs us : List Branch) (o v : SubstTree) → s ≡ form.If bs o → us ≡ bs → v ≡ o
      → effect_of n k s f env ≡ otherwise (first_of (map (λ (m : BranchMeaning). held m f env) (map (branch_of n k) us))) (effect_of n k v f env)
  if_is s f env bs us o v is same there =
      ap (λ (e : Effect). e f env) (effect_is s (SubstTree-F.If bs o) (ap out-SubstTree is ∙ outs-If bs o))
      ∙ ap (λ (l : List Branch). otherwise (first_of (map (λ (m : BranchMeaning). held m f env) (map (branch_of n k) l))) (effect_of n k o f env)) (sym same)
      ∙ ap (λ (w : SubstTree). otherwise (first_of (map (λ (m : BranchMeaning). held m f env) (map (branch_of n k) us))) (effect_of n k w f env)) (sym there)

  pub select_is : (s : SubstTree) (f : Frame) (env : List Value) (bs us : List Branch) → s ≡ form.Select bs None → us ≡ bs
      → effect_of n k s f env ≡ otherwise (all_of (map (λ (m : BranchMeaning). held m f env) (map (branch_of n k) us))) (Ok [])
  select_is s f env bs us is same =
      ap (λ (e : Effect). e f env) (effect_is s (SubstTree-F.Select bs None) (ap out-SubstTree is ∙ outs-Select bs None))
      ∙ ap (λ (l : List Branch). otherwise (all_of (map (λ (m : BranchMeaning). held m f env) (map (branch_of n k) l))) (Ok [])) (sym same)

  pub select_else_is : (s : SubstTree) (f : Frame) (env : List Value) (bs us : List Branch) (o v : SubstTree) → s ≡ form.Select bs (Some o) → us ≡ bs → v ≡ o
      → effect_of n k s f env ≡ otherwise (all_of (map (λ (m : BranchMeaning). held m f env) (map (branch_of n k) us))) (effect_of n k v f env)
  select_else_is s f env bs us o v is same there =
      ap (λ (e : Effect). e f env) (effect_is s (SubstTree-F.Select bs (Some o)) (ap out-SubstTree is ∙ outs-Select bs (Some o)))
      ∙ ap (λ (l : List Branch). otherwise (all_of (map (λ (m : BranchMeaning). held m f env) (map (branch_of n k) l))) (effect_of n k o f env)) (sym same)
      ∙ ap (λ (w : SubstTree). otherwise (all_of (map (λ (m : BranchMeaning). held m f env) (map (branch_of n k) us))) (effect_of n k w f env)) (sym there)

  pub select_any : (s : SubstTree) (f : Frame) (env : List Value) (bs us : List Branch) (o : Option SubstTree) → s ≡ form.Select bs o → us ≡ bs
      → (other : Answer (List Frame)) × (effect_of n k s f env ≡ otherwise (all_of (map (λ (m : BranchMeaning). held m f env) (map (branch_of n k) us))) other)
  select_any s f env bs us None is same = (Ok [], select_is s f env bs us is same)
  select_any s f env bs us (Some o) is same = (effect_of n k o f env, select_else_is s f env bs us o o is same refl)

  pub case_form : (s : SubstTree) (f : Frame) (env : List Value) (e : ExprTree) (cs us : List CaseBranch) (o v : SubstTree) (x : Value) → s ≡ form.Case e cs o → us ≡ cs → v ≡ o → value_of n e env ≡ Ok x
      → effect_of n k s f env ≡ otherwise (first_of (map (λ (c : CaseMeaning). labelled x c f env) (map (case_of n k) us))) (effect_of n k v f env)
  case_form s f env e cs us o v x is same there worth =
      ap (λ (m : Effect). m f env) (effect_is s (SubstTree-F.Case e cs o) (ap out-SubstTree is ∙ outs-Case e cs o))
      ∙ ap (λ (a : Answer Value). bind a (λ y. otherwise (first_of (map (λ (c : CaseMeaning). labelled y c f env) (map (case_of n k) cs))) (effect_of n k o f env))) worth
      ∙ ap (λ (l : List CaseBranch). otherwise (first_of (map (λ (c : CaseMeaning). labelled x c f env) (map (case_of n k) l))) (effect_of n k o f env)) (sym same)
      ∙ ap (λ (w : SubstTree). otherwise (first_of (map (λ (c : CaseMeaning). labelled x c f env) (map (case_of n k) us))) (effect_of n k w f env)) (sym there)
