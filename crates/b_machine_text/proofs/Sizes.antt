-- Sizes of parts that stand for something.
use Rattle.std.proofs.Common.{◌≡◌, List, [], ◌∷◌, map, fold, cond, Bool, true, false, Option, Some, None, Result, refl, ap, subst, ◌∙◌}
use Rattle.std.specs.Prelude.{IfOk, option_map}
use Rattle.b_ast.specs.declared.Place.{Place}
use Rattle.b_ast.specs.declared.Sort.{Sort}
use Rattle.b_ast.specs.declared.Sort.TheVariants as sort
use Rattle.b_ast.specs.declared.Formula.{Formula}
use Rattle.b_ast.specs.declared.machine.Def.{Def}
use Rattle.b_ast.specs.declared.machine.Operation.{Operation}
use Rattle.b_ast.specs.declared.machine.Subst.{Subst}
use Rattle.b_ast.specs.Sorts.{sort_of, fits}
use Rattle.b_machine_grammar.specs.declared.trees.Clause.{Clause}
use Rattle.b_machine_grammar.specs.declared.trees.Clause.TheVariants as clause
use Rattle.b_expand.specs.Expansion.{both, all_of, of_sort, expansion}
use Rattle.b_summaries.specs.declared.summary.Size.{Size}
use Rattle.b_summaries.specs.declared.summary.Facts.{Facts}
use Rattle.b_summaries.specs.Sizes.{plus, size_of, known}
use Rattle.b_summaries.specs.Summaries.{node}
use Rattle.b_substitutions.specs.Expansion.{subst_expansion}
use Rattle.b_substitutions.specs.Sizes.{size_of_subst}
use Rattle.b_machine_text.specs.Machines.{expanded_predicate, expanded_operation, expanded_clause, expanded_clauses, with_formula, with_body, with_operation, with_size_of, size_of_clauses, size_of_predicate, added}

-- ---- parts

-- the size of a part is added where it is there
part_added : {X : Type 0} (m : X → Size) (o : Option X) (z : Option Size) → both plus z (option_map m o) ≡ both (λ z x. plus z (m x)) z o
part_added m None None = refl
part_added m None (Some z) = refl
part_added m (Some x) None = refl
part_added m (Some x) (Some z) = refl

-- what is known of a predicate
predicate_size : (o : Option Formula) → size_of_predicate (known o) ≡ option_map size_of (of_sort sort.Predicate o)
predicate_size None = refl
predicate_size (Some e) = go (sort_of e)
  where
    go : (s : Option Sort) → size_of_predicate (option_map (λ s. record { sort = s; size = size_of e }) s) ≡ option_map size_of (cond (fits sort.Predicate s) (Some e) None)
    go None = refl
    go (Some sort.Expression) = refl
    go (Some sort.Predicate) = refl
    go (Some sort.Implication) = refl

pub predicate_added : (table : List Def) (e : Formula) (z : Option Size) (o : Option Facts) → o ≡ known (expansion table e) → (p : Option Size) → p ≡ size_of_predicate o → (r : Option Size) → r ≡ both plus z p → r ≡ both with_formula z (expanded_predicate table e)
predicate_added table e z o h p i r j =
    j
    ∙ (ap (both plus z) (i ∙ (ap size_of_predicate h ∙ predicate_size (expansion table e)))
    ∙ part_added size_of (expanded_predicate table e) z)

pub body_added : (table : List Def) (u : Subst) (z : Option Size) (p : Option Size) → p ≡ option_map size_of_subst (subst_expansion table u) → (r : Option Size) → r ≡ both plus z p → r ≡ both with_body z (subst_expansion table u)
body_added table u z p i r j = j ∙ (ap (both plus z) i ∙ part_added size_of_subst (subst_expansion table u) z)

pub operation_same : (table : List Def) (o : Operation) (z : Option Size) → both with_body z (subst_expansion table o.body) ≡ both with_operation z (expanded_operation table o)
operation_same table o z = go (subst_expansion table o.body) z
  where
    go : (u : Option Subst) (z : Option Size) → both with_body z u ≡ both with_operation z (option_map (λ u. record o { body = u }) u)
    go None None = refl
    go None (Some z) = refl
    go (Some u) None = refl
    go (Some u) (Some z) = refl

-- the answer of a call along an equation
pub size_along : {E : Type 0} (res : Result (Option Size) E) (x y : Option Size) → x ≡ y → IfOk res (λ z. z ≡ x) → IfOk res (λ z. z ≡ y)
size_along res x y e h = subst (λ (w : Option Size). IfOk res (λ z. z ≡ w)) e h

-- ---- lists

module _ {X Y : Type 0} (f : Size → Y → Size) (g : X → Option Y) where
  all_added : (xs : List X) (z : Option Size) → added f g z xs ≡ both (fold f) z (all_of (map g xs))
  all_added [] None = refl
  all_added [] (Some z) = refl
  all_added (x ∷ xs) z = all_added xs (both f z (g x)) ∙ go z (g x) (all_of (map g xs))
    where
      go : (z : Option Size) (o : Option Y) (os : Option (List Y)) → both (fold f) (both f z o) os ≡ both (fold f) z (both (λ y ys. y ∷ ys) o os)
      go None o os = refl
      go (Some z) None os = refl
      go (Some z) (Some y) None = refl
      go (Some z) (Some y) (Some ys) = refl

-- ---- clauses

-- a clause of a part that stands for something
of_part : {X : Type 0} (f : Size → X → Size) (c : X → Clause) → ((z : Size) (x : X) → f z x ≡ with_size_of z (c x)) → (z : Option Size) (o : Option X) → both f z o ≡ both with_size_of z (option_map c o)
of_part f c h None o = refl
of_part f c h (Some z) None = refl
of_part f c h (Some z) (Some x) = ap Some (h z x)

-- a clause without formulas
pub same_size : (c : Clause) → ((z : Size) → z ≡ with_size_of z c) → (z : Option Size) → z ≡ both with_size_of z (Some c)
same_size c h None = refl
same_size c h (Some z) = ap Some (h z)

module _ (table : List Def) (at : Place) (z : Option Size) where
  pub properties_same : (e : Formula) → both with_formula z (expanded_predicate table e) ≡ both with_size_of z (expanded_clause table (clause.Properties at e))
  properties_same e = of_part with_formula (clause.Properties at) (λ z x. refl) z (expanded_predicate table e)

  pub invariant_same : (e : Formula) → both with_formula z (expanded_predicate table e) ≡ both with_size_of z (expanded_clause table (clause.Invariant at e))
  invariant_same e = of_part with_formula (clause.Invariant at) (λ z x. refl) z (expanded_predicate table e)

  pub assertions_same : (es : List Formula) → added with_formula (expanded_predicate table) z es ≡ both with_size_of z (expanded_clause table (clause.Assertions at es))
  assertions_same es = all_added with_formula (expanded_predicate table) es z ∙ of_part (fold with_formula) (clause.Assertions at) (λ z x. refl) z (all_of (map (expanded_predicate table) es))

  pub initialisation_same : (u : Subst) → both with_body z (subst_expansion table u) ≡ both with_size_of z (expanded_clause table (clause.Initialisation at u))
  initialisation_same u = of_part with_body (clause.Initialisation at) (λ z x. refl) z (subst_expansion table u)

  pub operations_same : (os : List Operation) → added with_operation (expanded_operation table) z os ≡ both with_size_of z (expanded_clause table (clause.Operations at os))
  operations_same os = all_added with_operation (expanded_operation table) os z ∙ of_part (fold with_operation) (clause.Operations at) (λ z x. refl) z (all_of (map (expanded_operation table) os))

-- all clauses, from the machine's own node
pub clauses_same : (table : List Def) (cs : List Clause) → added with_size_of (expanded_clause table) (Some node) cs ≡ option_map size_of_clauses (expanded_clauses table cs)
clauses_same table cs = all_added with_size_of (expanded_clause table) cs (Some node) ∙ go (all_of (map (expanded_clause table) cs))
  where
    go : (o : Option (List Clause)) → both (fold with_size_of) (Some node) o ≡ option_map size_of_clauses o
    go None = refl
    go (Some cs) = refl
