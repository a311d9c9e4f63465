-- A definition is asked for its body under as many trees as it has parameters, and nowhere else.
use Rattle.std.proofs.Common.{◌≡◌, ℕ, Bool, true, false, ◌==◌, cond, List, [], length, map, Option, Some, None, refl, ap, ◌∙◌}
use Rattle.std.specs.Prelude.{option_and_then, option_map, is_some}
use Rattle.b_ast.specs.declared.Place.{Place}
use Rattle.b_ast.specs.declared.machine.Def.{Def}
use Rattle.b_ast.specs.declared.Formula.{Formula, fold-Formula}
use Rattle.b_ast.specs.declared.After.TheOpen.{Formula-F}
use Rattle.b_expand.specs.Places.{brackets}
use Rattle.b_expand.specs.Expansion.{Scope, Meaning, Meanings, Reading, Form, Side, Expands, tree_of, of_sort, used_with, used, sorted, all_of, named, called, row, row_of, applied, both, forms, later_forms, plain, first_arguments, after_step, link_step, formula_step, expanded}

-- a meaning that is asked in such scopes alone
abbrev pub fitted : Meaning → Meaning
fitted m = record { params = m.params; sort = m.sort; body = λ s. cond (length s.trees == length m.params) (m.body (record { round = s.round; params = m.params; trees = s.trees })) None }

abbrev pub fitting : Meanings → Meanings
fitting means x = option_map fitted (means x)

-- a test that is made twice
twice : {X Y : Type 0} (b : Bool) (f : Option X → Option Y) (o : Option X) → cond b (f (cond b o None)) None ≡ cond b (f o) None
twice true f o = refl
twice false f o = refl

used_with_fitted : (depth : ℕ) (m : Meaning) (s : Scope) (es : List Formula) → used_with depth (fitted m) s es ≡ used_with depth m s es
used_with_fitted depth m s es = twice (length es == length m.params) (of_sort m.sort) (m.body (record { round = brackets (brackets s.round depth) 1; params = m.params; trees = es }))

used_fitted : (depth : ℕ) (m : Meaning) (s : Scope) (args : List (Option Formula)) → used depth (fitted m) s args ≡ used depth m s args
used_fitted depth m s args = λ i. option_and_then (λ es. used_with_fitted depth m s es i) (all_of (map sorted args))

named_fitted : (m : Option Meaning) (o : Option Formula) (s : Scope) (at : Place) (x : List ℕ) → named (option_map fitted m) o s at x ≡ named m o s at x
named_fitted None None s at x = refl
named_fitted None (Some e) s at x = refl
named_fitted (Some m) (Some e) s at x = refl
named_fitted (Some m) None s at x = used_fitted at.depth m s []

abbrev paired : ℕ × Meaning → ℕ × Meaning
paired m = (m.0, fitted m.1)

-- the definition that is called
called_one : (b : Bool) (n : ℕ) (m : Option Meaning)
    → cond b None (option_and_then (λ (m : Meaning). cond (length m.params == 0) None (Some (n, m))) (option_map fitted m)) ≡ option_map paired (cond b None (option_and_then (λ (m : Meaning). cond (length m.params == 0) None (Some (n, m))) m))
called_one true n m = refl
called_one false n None = refl
called_one false n (Some m) = go (length m.params == 0)
  where
    go : (b : Bool) → cond b None (Some (n, fitted m)) ≡ option_map paired (cond b None (Some (n, m)))
    go true = refl
    go false = refl

called_fitted : (means : Meanings) (s : Scope) (n : Option (ℕ × List ℕ)) → called (fitting means) s n ≡ option_map paired (called means s n)
called_fitted means s None = refl
called_fitted means s (Some n) = called_one (is_some (tree_of s n.1)) n.0 (means n.1)

applied_fitted : (m : ℕ × Meaning) (args : Option (List (Expands Formula))) (r : Reading) (fs : List Form) (s : Scope) → applied (paired m) args r fs s ≡ applied m args r fs s
applied_fitted m None r fs s = refl
applied_fitted m (Some args) r fs s = ap (λ (u : Option Formula). both row_of u (forms (later_forms fs) s)) (used_fitted m.0 m.1 s (map (λ (a : Expands Formula). a s) args))

row_fitted : (m : Option (ℕ × Meaning)) (r : Reading) (fs : List Form) (s : Scope) → row (option_map paired m) r fs s ≡ row m r fs s
row_fitted None r fs s = refl
row_fitted (Some m) r fs s = applied_fitted m (first_arguments fs) r fs s

-- a step of a tree asks no other questions
step_fitted : (table : List Def) (means : Meanings) (y : Formula-F Form Reading Side) → formula_step table (fitting means) y ≡ formula_step table means y
step_fitted table means (Formula-F.Name at x) = λ i. record (plain (λ s. named_fitted (means x) (tree_of s x) s at x i)) { name = Some (at.depth, x) }
step_fitted table means (Formula-F.Row r fs) = λ i. plain (λ s. (ap (λ c. row c r fs s) (called_fitted means s r.name) ∙ row_fitted (called means s r.name) r fs s) i)
step_fitted table means y = refl

pub expanded_fitted : (table : List Def) (means : Meanings) (s : Scope) (t : Formula) → expanded table (fitting means) s t ≡ expanded table means s t
expanded_fitted table means s t = λ i. (fold-Formula Form Reading Side after_step (λ y. step_fitted table means y i) link_step t).tree s
