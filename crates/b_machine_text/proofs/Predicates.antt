-- Predicates within the limits.
use Rattle.std.proofs.Common.{◌≡◌, ◌≤◌, Bool, true, false, cond, List, Option, Some, None, Result, Ok, Err, refl, sym, ap, subst, ◌∙◌, arith}
use Rattle.std.specs.Prelude.{IfOk, IfSome}
use Rattle.b_ast.specs.declared.Place.{Place}
use Rattle.b_ast.specs.declared.Sort.TheVariants as sort
use Rattle.b_ast.specs.declared.Formula.{Formula}
use Rattle.b_ast.specs.declared.machine.Def.{Def}
use Rattle.b_ast.specs.declared.machine.Operation.{Operation}
use Rattle.b_ast.specs.declared.machine.Subst.{Subst}
use Rattle.b_ast.specs.Sorts.{sort_of, fits}
use Rattle.b_machine_grammar.specs.declared.trees.Clause.{Clause}
use Rattle.b_machine_grammar.specs.declared.trees.Clause.TheVariants as clause
use Rattle.b_expand.specs.Expansion.{expansion, of_sort}
use Rattle.b_expand.specs.Filling.{filled}
use Rattle.b_expand.specs.Places.{deepest}
use Rattle.b_expand.proofs.Putting.{filled_is_expanded}
use Rattle.b_substitutions.specs.Limits.{IsWithinLimits}
use Rattle.b_machine_text.specs.Machines.{expanded_predicate}
use Rattle.b_machine_text.specs.Limits.{IsFormulaWithin, IsPredicateWithin, ArePredicatesWithin, AreOperationsWithin, IsClauseWithin}

-- a tree within the limits has few open brackets
shallow : (o : Option Formula) (f : Formula) → ((e : Formula) → o ≡ Some e → f ≡ e) → IsFormulaWithin (of_sort sort.Predicate o) → deepest f ≤ 100
shallow None f g w = absurd w
shallow (Some e) f g w = let k : deepest f ≡ deepest e = ap deepest (g e refl) in let h : deepest e ≤ 100 = go (fits sort.Predicate (sort_of e)) w in omega arith
  where
    go : (b : Bool) → IsFormulaWithin (cond b (Some e) None) → deepest e ≤ 100
    go true w = w.1
    go false w = absurd w

pub predicate_shallow : (ds table : List Def) → table ≡ ds → (t : Formula) → IsPredicateWithin ds t → deepest (filled table t) ≤ 100
predicate_shallow ds table same t w =
    subst (λ (es : List Def). deepest (filled es t) ≤ 100) (sym same) (shallow (expansion ds t) (filled ds t) (filled_is_expanded ds t) w.within)

-- what a formula expands to is the predicate that it stands for
found : (o : Option Formula) (e : Formula) → IfSome o (λ w. e ≡ w) → IsFormulaWithin (of_sort sort.Predicate o) → of_sort sort.Predicate o ≡ Some e
found None e h w = absurd w
found (Some t) e h w = go (fits sort.Predicate (sort_of t)) w
  where
    go : (b : Bool) → IsFormulaWithin (cond b (Some t) None) → cond b (Some t) None ≡ Some e
    go true w = ap (λ (t : Formula). Some t) (sym h)
    go false w = absurd w

pub predicate_if_ok : {E : Type 0} (ds table : List Def) → table ≡ ds → (t : Formula) → IsPredicateWithin ds t → (res : Result Formula E) → IfOk res (λ e. IfSome (expansion table t) (λ w. e ≡ w)) → IfOk res (λ e. expanded_predicate ds t ≡ Some e)
predicate_if_ok ds table same t w (Err f) h = tt
predicate_if_ok ds table same t w (Ok e) h = found (expansion ds t) e (subst (λ (es : List Def). IfSome (expansion es t) (λ w. e ≡ w)) same h) w.within

-- ---- parts of clauses

module _ (table : List Def) (at : Place) (c : Clause) where
  pub properties_fit : (e : Formula) → c ≡ clause.Properties at e → IsClauseWithin table c → IsPredicateWithin table e
  properties_fit e i h = (subst (IsClauseWithin table) i h).parts

  pub invariant_fits : (e : Formula) → c ≡ clause.Invariant at e → IsClauseWithin table c → IsPredicateWithin table e
  invariant_fits e i h = (subst (IsClauseWithin table) i h).parts

  pub assertions_fit : (es : List Formula) → c ≡ clause.Assertions at es → IsClauseWithin table c → ArePredicatesWithin table es
  assertions_fit es i h = (subst (IsClauseWithin table) i h).parts

  pub initialisation_fits : (u : Subst) → c ≡ clause.Initialisation at u → IsClauseWithin table c → IsWithinLimits table u
  initialisation_fits u i h = (subst (IsClauseWithin table) i h).parts

  pub operations_fit : (os : List Operation) → c ≡ clause.Operations at os → IsClauseWithin table c → AreOperationsWithin table os
  operations_fit os i h = (subst (IsClauseWithin table) i h).parts
