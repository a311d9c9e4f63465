-- What a formula demands beside a face names parts that are there.
use Rattle.std.proofs.Common.{◌≡◌, ◌≤◌, ◌+◌, ℕ, cond, List, [], ◌∷◌, ◌++◌, length, length-append, arith, refl, sym, ap, ◌∙◌, subst, suc}
use Rattle.b_ast.specs.declared.FormulaText.{FormulaText}
use Rattle.b_ast.specs.declared.FormulaText.TheVariants as text
use Rattle.b_values.specs.declared.types.SetFace.{SetFace}
use Rattle.b_values.specs.declared.types.NameFace.{NameFace}
use Rattle.b_values.specs.declared.types.Face.{Face}
use Rattle.type_choices.specs.Forms.{AreForms}
use Rattle.type_demands.specs.declared.demands.Demand.{Demand}
use Rattle.type_demands.specs.Scopes as scopes
use Rattle.type_formulas.specs.Typings.{forms_in}
use Rattle.type_formulas.proofs.Ranges.{Bounded}
use Rattle.type_names.specs.Names.{in_order, alike, free}
use Rattle.type_names.specs.Faces.{set_names, face_names, operation_names, is_deferred, listed_elements, deferred_elements, elements_named, scope_beside}
use Rattle.type_substs.specs.Told.{told}
use Rattle.b_types.specs.declared.formulas.Scope.{Scope}
use Rattle.b_types.specs.Known.{known_sets}
use Rattle.b_types.specs.Formulas.{variables_known, params_known, scope_of, formula_known, with_text, formula_told}
use Rattle.b_types.proofs.Adding.{Adds, formula_adds, predicate_adds}
use Rattle.b_types.proofs.Names.{AreBelow, below_both, in_order_below, alike_below, named_bounded, length_known}

length_set_names : (ss : List SetFace) → length (set_names ss) ≡ length ss
length_set_names [] = refl
length_set_names (s ∷ ss) = ap suc (length_set_names ss)

length_names : (ks : List NameFace) → length (face_names ks) ≡ length ks
length_names [] = refl
length_names (k ∷ ks) = ap suc (length_names ks)

listed_below : (c p : ℕ) (ss : List SetFace) → p + length ss ≤ c → AreBelow c (listed_elements p ss)
listed_below c p [] h = tt
listed_below c p (s ∷ ss) h =
    below_both c (alike p (cond (is_deferred s) [] s.elements)) (listed_elements (p + 1) ss) (alike_below c p (cond (is_deferred s) [] s.elements) (omega arith)) (listed_below c (p + 1) ss (omega arith))

deferred_below : (hiding : List (List ℕ)) (c p : ℕ) (ss : List SetFace) → p + length ss ≤ c → AreBelow c (deferred_elements hiding p ss)
deferred_below hiding c p [] h = tt
deferred_below hiding c p (s ∷ ss) h =
    below_both c (alike p (cond (is_deferred s) (free hiding s.elements) [])) (deferred_elements hiding (p + 1) ss)
    (alike_below c p (cond (is_deferred s) (free hiding s.elements) []) (omega arith)) (deferred_below hiding c (p + 1) ss (omega arith))

elements_below : (c : ℕ) (f : Face) → length f.sets + length f.sets ≤ c → AreBelow c (elements_named f)
elements_below c f h =
    below_both c (listed_elements (length f.sets) f.sets) (deferred_elements (operation_names f.ops) (length f.sets) f.sets)
    (listed_below c (length f.sets) f.sets h) (deferred_below (operation_names f.ops) c (length f.sets) f.sets h)

beside_bounded : (c : ℕ) (f : Face) (constants variables params : List NameFace) → length f.sets + length f.sets + length constants + length variables + length params ≤ c → Bounded c (scope_beside f constants variables params)
beside_bounded c f constants variables params h =
    let n = length f.sets + length f.sets in
    let a = length_set_names f.sets in
    let k = length_names constants in
    let v = length_names variables in
    let p = length_names params in
    let one = in_order (n + length constants + length variables) (face_names params) in
    let two = in_order 0 (set_names f.sets) in
    let three = in_order n (face_names constants) in
    let four = in_order (n + length constants) (face_names variables) in
    named_bounded c (one ++ two ++ three ++ four ++ elements_named f)
    (below_both c (one ++ two ++ three ++ four) (elements_named f)
    (below_both c (one ++ two ++ three) four
    (below_both c (one ++ two) three
    (below_both c one two (in_order_below c (n + length constants + length variables) (face_names params) (omega arith)) (in_order_below c 0 (set_names f.sets) (omega arith)))
    (in_order_below c n (face_names constants) (omega arith)))
    (in_order_below c (n + length constants) (face_names variables) (omega arith)))
    (elements_below c f (omega arith)))

text_adds : (t : FormulaText) → Adds (with_text t)
text_adds (text.Expr e) = formula_adds e.formula
text_adds (text.Pred p) = predicate_adds p.formula

length_all : (f : Face) (s : Scope) → length (formula_known f s) ≡ length f.sets + length f.sets + length f.constants + length (variables_known f s) + length (params_known f s)
length_all f s =
    let k = length_known (length f.sets) in
    let a = length-append (known_sets (length f.sets)) f.constants in
    let b = length-append (known_sets (length f.sets) ++ f.constants) (variables_known f s) in
    let c = length-append (known_sets (length f.sets) ++ f.constants ++ variables_known f s) (params_known f s) in
    omega arith

pub known_inside : (f : Face) (s : Scope) (t : FormulaText) → length (formula_known f s) ≤ (formula_told f s t).next
known_inside f s t = (text_adds t).grows (scope_of f s) (told [] (length (formula_known f s)))

pub formula_within : (f : Face) (s : Scope) (t : FormulaText) → AreForms (formula_told f s t).next (forms_in (formula_told f s t).demands)
formula_within f s t =
    let c = (formula_told f s t).next in
    let g = known_inside f s t in
    let l = length_all f s in
    (text_adds t).within c (scope_of f s) (told [] (length (formula_known f s))) (beside_bounded c f f.constants (variables_known f s) (params_known f s) (omega arith)) (omega arith) tt

-- ---- what is told, by what the code knows

pub beside_is : (f : Face) (s : Scope) (ks vs ps : List NameFace) → ks ≡ f.constants → vs ≡ variables_known f s → ps ≡ params_known f s → scope_beside f ks vs ps ≡ scope_of f s
beside_is f s ks vs ps a b c =
    ap (λ k. scope_beside f k vs ps) a ∙ ap (λ v. scope_beside f f.constants v ps) b ∙ ap (scope_beside f f.constants (variables_known f s)) c

pub formula_is : (f : Face) (s : Scope) (t : FormulaText) (sc : scopes.Scope) (ds : List Demand) (n : ℕ) → sc ≡ scope_of f s → ds ≡ [] → n ≡ length (formula_known f s) → with_text t sc (told ds n) ≡ formula_told f s t
formula_is f s t sc ds n a b c =
    ap (λ x. with_text t x (told ds n)) a ∙ ap (λ x. with_text t (scope_of f s) (told x n)) b ∙ ap (λ x. with_text t (scope_of f s) (told [] x)) c

pub forms_inside : (f : Face) (s : Scope) (t : FormulaText) (ds : List Demand) (n : ℕ) → ds ≡ (formula_told f s t).demands → n ≡ (formula_told f s t).next → AreForms n (forms_in ds)
forms_inside f s t ds n d e = subst (λ k. AreForms k (forms_in ds)) (sym e) (subst (λ l. AreForms (formula_told f s t).next (forms_in l)) (sym d) (formula_within f s t))
