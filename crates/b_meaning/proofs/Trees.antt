-- What the forms of a formula mean, by their parts.
use Rattle.std.proofs.Common.{◌≡◌, ℕ, Bool, false, true, List, map, Result, Ok, Err, Option, refl, sym, ap, ◌∙◌, subst}
use Rattle.b_meaning.specs.Meaning.{Meaning, LinkMeaning, PlanMeaning, Test, BinderMeaning, ClauseMeaning, CollectionMeaning, PowerMeaning, SidesMeaning, UniversalMeaning, VariableMeaning, expr_step, link_step, plan_step, pred_step, binder_step, clause_step, collection_step, power_step, sides_step, universal_step, variable_step, value_step, member_step, meaning_of, link_of, plan_of, holds_of, binder_of, clause_of, collection_of, power_of, sides_of, universal_of, variable_of, value_of, member_of, binder_places, at_tuple, implied, passing, collected, is_over}
use Rattle.b_places.specs.Places.{decided, instances, those}
use Rattle.b_places.specs.Scopes.{Slots}
use Rattle.b_rows.specs.Answers.{Answer, bind, placed, all_at, Means, MeansBy}
use Rattle.b_rows.specs.declared.EvalStop.{EvalStop}
use Rattle.b_rows.specs.declared.EvalStop.TheVariants.{Fault, Memory}
use Rattle.b_tree.specs.declared.Binder.{Binder, out-Binder, fold_out-Binder}
use Rattle.b_tree.specs.declared.Clause.{Clause}
use Rattle.b_tree.specs.declared.Collection.{Collection, out-Collection, fold_out-Collection}
use Rattle.b_tree.specs.declared.ExprTree.{ExprTree, out-ExprTree, map-ExprTree, fold_out-ExprTree}
use Rattle.b_tree.specs.declared.ExprTree.TheOpen.{ExprTree-F, Plan-F, PredTree-F}
use Rattle.b_tree.specs.declared.ExprTree.TheVariants.{Comprehension, Collected, Between, Over, outs-Comprehension, outs-Collected, outs-Between, outs-Over}
use Rattle.b_tree.specs.declared.Link.{Link}
use Rattle.b_tree.specs.declared.Place.{Place}
use Rattle.b_tree.specs.declared.Plan.{Plan, out-Plan, map-Plan, fold_out-Plan}
use Rattle.b_tree.specs.declared.Plan.TheVariants.{Cut, outs-Cut}
use Rattle.b_tree.specs.declared.Power.{Power}
use Rattle.b_tree.specs.declared.PredTree.{PredTree, out-PredTree, map-PredTree, fold_out-PredTree}
use Rattle.b_tree.specs.declared.PredTree.TheVariants.{Exists, ForAll, outs-Exists, outs-ForAll}
use Rattle.b_tree.specs.declared.Sides.{Sides}
use Rattle.b_tree.specs.declared.Universal.{Universal, out-Universal, fold_out-Universal}
use Rattle.b_tree.specs.declared.Variable.{Variable, out-Variable, fold_out-Variable}
use Rattle.b_rows.specs.Rows.{set_row}
use Rattle.b_tree.specs.declared.operators.Collector.{Collector}
use Rattle.b_tree.specs.declared.operators.Family.{Family}
use Rattle.b_tree.specs.declared.operators.SetOperator.{SetOperator}
use Rattle.b_values.specs.Values.{elements}
use Rattle.b_values.specs.declared.values.Value.{Value}
use Rattle.set_making.specs.Making.{set_with}

value_is : (n : ℕ) (e : ExprTree) (x : ExprTree-F ExprTree Link Plan PredTree Binder Clause Collection Power Sides Universal Variable) (env : Slots) → out-ExprTree e ≡ x
    → value_of n e env ≡ value_step n (map-ExprTree ExprTree Link Plan PredTree Binder Clause Collection Power Sides Universal Variable Meaning LinkMeaning PlanMeaning Test BinderMeaning ClauseMeaning CollectionMeaning PowerMeaning SidesMeaning UniversalMeaning VariableMeaning (meaning_of n) (link_of n) (plan_of n) (holds_of n) (binder_of n) (clause_of n) (collection_of n) (power_of n) (sides_of n) (universal_of n) (variable_of n) x) env
value_is n e x env is =
    ap (λ (m : Meaning). m.value env) (fold_out-ExprTree Meaning LinkMeaning PlanMeaning Test BinderMeaning ClauseMeaning CollectionMeaning PowerMeaning SidesMeaning UniversalMeaning VariableMeaning (expr_step n) (link_step n) (plan_step n) (pred_step n) (binder_step n) (clause_step n) (collection_step n) (power_step n) (sides_step n) (universal_step n) (variable_step n) e)
    ∙ ap (λ y. value_step n (map-ExprTree ExprTree Link Plan PredTree Binder Clause Collection Power Sides Universal Variable Meaning LinkMeaning PlanMeaning Test BinderMeaning ClauseMeaning CollectionMeaning PowerMeaning SidesMeaning UniversalMeaning VariableMeaning (meaning_of n) (link_of n) (plan_of n) (holds_of n) (binder_of n) (clause_of n) (collection_of n) (power_of n) (sides_of n) (universal_of n) (variable_of n) y) env) is

holds_is : (n : ℕ) (p : PredTree) (x : PredTree-F ExprTree Link Plan PredTree Binder Clause Collection Power Sides Universal Variable) (env : Slots) → out-PredTree p ≡ x
    → holds_of n p env ≡ pred_step n (map-PredTree ExprTree Link Plan PredTree Binder Clause Collection Power Sides Universal Variable Meaning LinkMeaning PlanMeaning Test BinderMeaning ClauseMeaning CollectionMeaning PowerMeaning SidesMeaning UniversalMeaning VariableMeaning (meaning_of n) (link_of n) (plan_of n) (holds_of n) (binder_of n) (clause_of n) (collection_of n) (power_of n) (sides_of n) (universal_of n) (variable_of n) x) env
holds_is n p x env is =
    ap (λ (m : Test). m env) (fold_out-PredTree Meaning LinkMeaning PlanMeaning Test BinderMeaning ClauseMeaning CollectionMeaning PowerMeaning SidesMeaning UniversalMeaning VariableMeaning (expr_step n) (link_step n) (plan_step n) (pred_step n) (binder_step n) (clause_step n) (collection_step n) (power_step n) (sides_step n) (universal_step n) (variable_step n) p)
    ∙ ap (λ y. pred_step n (map-PredTree ExprTree Link Plan PredTree Binder Clause Collection Power Sides Universal Variable Meaning LinkMeaning PlanMeaning Test BinderMeaning ClauseMeaning CollectionMeaning PowerMeaning SidesMeaning UniversalMeaning VariableMeaning (meaning_of n) (link_of n) (plan_of n) (holds_of n) (binder_of n) (clause_of n) (collection_of n) (power_of n) (sides_of n) (universal_of n) (variable_of n) y) env) is

pub for_all_truth : (n : ℕ) (p : PredTree) (u v : Universal) (env : Slots) (r : Result Bool EvalStop) → p ≡ ForAll u → v ≡ u
    → Means (decided true (instances (at_tuple (implied (universal_of n v)) env) (binder_places n (universal_of n v).binder.variables env))) r → Means (holds_of n p env) r
for_all_truth n p u v env r is same h =
    subst (λ (m : Answer Bool). Means m r) (sym (holds_is n p (PredTree-F.ForAll u) env (ap out-PredTree is ∙ outs-ForAll u)))
    (subst (λ (x : Universal). Means (decided true (instances (at_tuple (implied (universal_of n x)) env) (binder_places n (universal_of n x).binder.variables env))) r) same h)

module _ (n : ℕ) (e : ExprTree) (at : Place) (b c : Binder) (env : Slots) (is : e ≡ Comprehension at b) (same : c ≡ b) where
  comprehension : value_of n e env ≡ bind (those (instances (passing (binder_of n c).test env) (binder_places n (binder_of n c).variables env))) (λ vs. placed at (set_with vs))
  comprehension =
      value_is n e (ExprTree-F.Comprehension at b) env (ap out-ExprTree is ∙ outs-Comprehension at b)
      ∙ ap (λ (x : Binder). bind (those (instances (passing (binder_of n x).test env) (binder_places n (binder_of n x).variables env))) (λ vs. placed at (set_with vs))) (sym same)

  pub comprehension_value : (vs : List Value) (r : Result Value EvalStop) → those (instances (passing (binder_of n c).test env) (binder_places n (binder_of n c).variables env)) ≡ Ok vs → Means (placed at (set_with vs)) r → Means (value_of n e env) r
  comprehension_value vs r f h = subst (λ (m : Answer Value). Means m r) (sym (comprehension ∙ ap (λ (m : Answer (List Value)). bind m (λ vs. placed at (set_with vs))) f)) h

  pub comprehension_stop : {X : Type 0} (view : X → List Value) (stop : EvalStop) → MeansBy view (those (instances (passing (binder_of n c).test env) (binder_places n (binder_of n c).variables env))) (Err stop) → Means (value_of n e env) (Err stop)
  comprehension_stop view (Fault f) h = comprehension ∙ ap (λ (m : Answer (List Value)). bind m (λ vs. placed at (set_with vs))) h
  comprehension_stop view Memory h = tt

pub collected_value : (n : ℕ) (e : ExprTree) (c : Collector) (at : Place) (k l : Collection) (env : Slots) (r : Result Value EvalStop) → e ≡ Collected c at k → l ≡ k
    → Means (collected n c at (collection_of n l) env) r → Means (value_of n e env) r
collected_value n e c at k l env r is same h =
    subst (λ (m : Answer Value). Means m r) (sym (value_is n e (ExprTree-F.Collected c at k) env (ap out-ExprTree is ∙ outs-Collected c at k)))
    (subst (λ (x : Collection). Means (collected n c at (collection_of n x) env) r) same h)

pub between_value : (n : ℕ) (e : ExprTree) (op : SetOperator) (at : Place) (k l : Sides) (env : Slots) (r : Result Value EvalStop) → e ≡ Between op at k → l ≡ k
    → Means (bind ((sides_of n l).left.value env) (λ x. bind ((sides_of n l).right.value env) (λ y. placed at (set_row op x y)))) r → Means (value_of n e env) r
between_value n e op at k l env r is same h =
    subst (λ (m : Answer Value). Means m r) (sym (value_is n e (ExprTree-F.Between op at k) env (ap out-ExprTree is ∙ outs-Between op at k)))
    (subst (λ (x : Sides). Means (bind ((sides_of n x).left.value env) (λ y. bind ((sides_of n x).right.value env) (λ z. placed at (set_row op y z)))) r) same h)

member_by : (n : ℕ) (e : ExprTree) (x : ExprTree-F ExprTree Link Plan PredTree Binder Clause Collection Power Sides Universal Variable) (v : Value) (env : Slots) → out-ExprTree e ≡ x
    → member_of n e v env ≡ member_step n (map-ExprTree ExprTree Link Plan PredTree Binder Clause Collection Power Sides Universal Variable Meaning LinkMeaning PlanMeaning Test BinderMeaning ClauseMeaning CollectionMeaning PowerMeaning SidesMeaning UniversalMeaning VariableMeaning (meaning_of n) (link_of n) (plan_of n) (holds_of n) (binder_of n) (clause_of n) (collection_of n) (power_of n) (sides_of n) (universal_of n) (variable_of n) x) v env
member_by n e x v env is =
    ap (λ (m : Meaning). m.member v env) (fold_out-ExprTree Meaning LinkMeaning PlanMeaning Test BinderMeaning ClauseMeaning CollectionMeaning PowerMeaning SidesMeaning UniversalMeaning VariableMeaning (expr_step n) (link_step n) (plan_step n) (pred_step n) (binder_step n) (clause_step n) (collection_step n) (power_step n) (sides_step n) (universal_step n) (variable_step n) e)
    ∙ ap (λ y. member_step n (map-ExprTree ExprTree Link Plan PredTree Binder Clause Collection Power Sides Universal Variable Meaning LinkMeaning PlanMeaning Test BinderMeaning ClauseMeaning CollectionMeaning PowerMeaning SidesMeaning UniversalMeaning VariableMeaning (meaning_of n) (link_of n) (plan_of n) (holds_of n) (binder_of n) (clause_of n) (collection_of n) (power_of n) (sides_of n) (universal_of n) (variable_of n) y) v env) is

pub over_member : (n : ℕ) (e : ExprTree) (f : Family) (at : Place) (k l : ExprTree) (v : Value) (env : Slots) (r : Result Bool EvalStop) → e ≡ Over f at k → l ≡ k
    → Means (is_over f (meaning_of n l) v env) r → Means (member_of n e v env) r
over_member n e f at k l v env r is same h =
    subst (λ (m : Answer Bool). Means m r) (sym (member_by n e (ExprTree-F.Over f at k) v env (ap out-ExprTree is ∙ outs-Over f at k)))
    (subst (λ (x : ExprTree). Means (is_over f (meaning_of n x) v env) r) same h)

-- ---- parts of binders

pub universal_binder : (n : ℕ) (u : Universal) → (universal_of n u).binder ≡ binder_of n (out-Universal u).binder
universal_binder n u = ap (λ (m : UniversalMeaning). m.binder) (fold_out-Universal Meaning LinkMeaning PlanMeaning Test BinderMeaning ClauseMeaning CollectionMeaning PowerMeaning SidesMeaning UniversalMeaning VariableMeaning (expr_step n) (link_step n) (plan_step n) (pred_step n) (binder_step n) (clause_step n) (collection_step n) (power_step n) (sides_step n) (universal_step n) (variable_step n) u)

pub collection_binder : (n : ℕ) (k : Collection) → (collection_of n k).binder ≡ binder_of n (out-Collection k).binder
collection_binder n k = ap (λ (m : CollectionMeaning). m.binder) (fold_out-Collection Meaning LinkMeaning PlanMeaning Test BinderMeaning ClauseMeaning CollectionMeaning PowerMeaning SidesMeaning UniversalMeaning VariableMeaning (expr_step n) (link_step n) (plan_step n) (pred_step n) (binder_step n) (clause_step n) (collection_step n) (power_step n) (sides_step n) (universal_step n) (variable_step n) k)

pub binder_test : (n : ℕ) (b : Binder) → (binder_of n b).test ≡ holds_of n (out-Binder b).predicate
binder_test n b = ap (λ (m : BinderMeaning). m.test) (fold_out-Binder Meaning LinkMeaning PlanMeaning Test BinderMeaning ClauseMeaning CollectionMeaning PowerMeaning SidesMeaning UniversalMeaning VariableMeaning (expr_step n) (link_step n) (plan_step n) (pred_step n) (binder_step n) (clause_step n) (collection_step n) (power_step n) (sides_step n) (universal_step n) (variable_step n) b)

pub binder_variables : (n : ℕ) (b : Binder) → (binder_of n b).variables ≡ map (variable_of n) (out-Binder b).variables
binder_variables n b = ap (λ (m : BinderMeaning). m.variables) (fold_out-Binder Meaning LinkMeaning PlanMeaning Test BinderMeaning ClauseMeaning CollectionMeaning PowerMeaning SidesMeaning UniversalMeaning VariableMeaning (expr_step n) (link_step n) (plan_step n) (pred_step n) (binder_step n) (clause_step n) (collection_step n) (power_step n) (sides_step n) (universal_step n) (variable_step n) b)

-- ---- ranges

range_is : (n : ℕ) (v : Variable) (x : Plan-F ExprTree Link Plan PredTree Binder Clause Collection Power Sides Universal Variable) (env : Slots) → out-Plan (out-Variable v).plan ≡ x
    → (variable_of n v).range env ≡ plan_step n (map-Plan ExprTree Link Plan PredTree Binder Clause Collection Power Sides Universal Variable Meaning LinkMeaning PlanMeaning Test BinderMeaning ClauseMeaning CollectionMeaning PowerMeaning SidesMeaning UniversalMeaning VariableMeaning (meaning_of n) (link_of n) (plan_of n) (holds_of n) (binder_of n) (clause_of n) (collection_of n) (power_of n) (sides_of n) (universal_of n) (variable_of n) x) (out-Variable v).at env
range_is n v x env is =
    ap (λ (m : VariableMeaning). m.range env) (fold_out-Variable Meaning LinkMeaning PlanMeaning Test BinderMeaning ClauseMeaning CollectionMeaning PowerMeaning SidesMeaning UniversalMeaning VariableMeaning (expr_step n) (link_step n) (plan_step n) (pred_step n) (binder_step n) (clause_step n) (collection_step n) (power_step n) (sides_step n) (universal_step n) (variable_step n) v)
    ∙ ap (λ (m : PlanMeaning). m (out-Variable v).at env) (fold_out-Plan Meaning LinkMeaning PlanMeaning Test BinderMeaning ClauseMeaning CollectionMeaning PowerMeaning SidesMeaning UniversalMeaning VariableMeaning (expr_step n) (link_step n) (plan_step n) (pred_step n) (binder_step n) (clause_step n) (collection_step n) (power_step n) (sides_step n) (universal_step n) (variable_step n) (out-Variable v).plan)
    ∙ ap (λ y. plan_step n (map-Plan ExprTree Link Plan PredTree Binder Clause Collection Power Sides Universal Variable Meaning LinkMeaning PlanMeaning Test BinderMeaning ClauseMeaning CollectionMeaning PowerMeaning SidesMeaning UniversalMeaning VariableMeaning (meaning_of n) (link_of n) (plan_of n) (holds_of n) (binder_of n) (clause_of n) (collection_of n) (power_of n) (sides_of n) (universal_of n) (variable_of n) y) (out-Variable v).at env) is

pub cut_stops : {X : Type 0} (view : X → List Value) (n : ℕ) (v : Variable) (e : ExprTree) (env : Slots) (t : EvalStop) → (out-Variable v).plan ≡ Cut e → Means (all_at (out-Variable v).at (value_of n e env)) (Err t) → MeansBy view ((variable_of n v).range env) (Err t)
cut_stops view n v e env (Fault f) is h = range_is n v (Plan-F.Cut e) env (ap out-Plan is ∙ outs-Cut e) ∙ ap (λ (a : Answer Value). bind a (λ x. Ok (elements x))) h
cut_stops view n v e env Memory is h = tt
