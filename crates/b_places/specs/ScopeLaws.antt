-- The slots of a scope inside another.
use Rattle.std.proofs.Common.{◌≡◌, ◌<◌, ◌+◌, ℕ, zero, suc, List, [], ◌∷◌, ◌++◌, length, Option, Some, None, arith, refl, sym, ap, ◌∙◌, length-append, Bor}
use Rattle.std.specs.Prelude.{slice_get}
use Rattle.b_values.specs.declared.values.Value.{Value}
use Rattle.b_places.specs.Scopes.{slots_of, slots_layer}
use Rattle.b_places.specs.declared.scope.Scope.{Scope, out-Scope, map-Scope, fold_out-Scope}
use Rattle.b_places.specs.declared.scope.Scope.TheOpen.{Scope-F}
use Rattle.b_places.specs.declared.scope.Scope.TheVariants.{Inside, outs-Inside}

at_front : (xs ys : List Value) (i : ℕ) (v : Value) → slice_get xs i ≡ Some v → slice_get (xs ++ ys) i ≡ Some v
at_front [] ys i v e = cc
at_front (x ∷ xs) ys zero v e = e
at_front (x ∷ xs) ys (suc i) v e = at_front xs ys i v e

at_back : (xs ys : List Value) (i past : ℕ) → length xs + past ≡ i → slice_get (xs ++ ys) i ≡ slice_get ys past
at_back [] ys i past e = ap (slice_get ys) (sym (omega arith))
at_back (x ∷ xs) ys zero past e = absurd (omega arith)
at_back (x ∷ xs) ys (suc i) past e = at_back xs ys i past (omega arith)

pub slots_inside : (s : Scope) (outer : Bor Scope) (vs : Bor (List Value)) → s ≡ Inside outer vs → slots_of s ≡ slots_of outer.now ++ vs.now
slots_inside s outer vs e = fold_out-Scope (List Value) slots_layer s ∙ ap (λ y. slots_layer (map-Scope Scope (List Value) slots_of y)) (ap out-Scope e ∙ outs-Inside outer vs)

module _ (s : Scope) (outer : Bor Scope) (vs : Bor (List Value)) (is : s ≡ Inside outer vs) (i : ℕ) where
  pub outer_slot : (v : Value) → slice_get (slots_of outer.now) i ≡ Some v → slice_get (slots_of s) i ≡ Some v
  outer_slot v e = ap (λ (l : List Value). slice_get l i) (slots_inside s outer vs is) ∙ at_front (slots_of outer.now) vs.now i v e

  module _ (past : ℕ) (e : length (slots_of outer.now) + past ≡ i) where
    pub inner_slot : (v : Value) → slice_get vs.now past ≡ Some v → slice_get (slots_of s) i ≡ Some v
    inner_slot v f = ap (λ (l : List Value). slice_get l i) (slots_inside s outer vs is) ∙ at_back (slots_of outer.now) vs.now i past e ∙ f

    pub past_slots : (further : ℕ) → length vs.now + further ≡ past → length (slots_of s) + further ≡ i
    past_slots further f =
        let a = ap (λ (l : List Value). length l) (slots_inside s outer vs is) in
        let b = length-append (slots_of outer.now) vs.now in
        omega (arith, a, b, e, f)

-- the slots inside a binder
pub inner_slots : (env : Bor Scope) (a : Bor (List Value)) (vs : List Value) → a.now ≡ vs → slots_of (Inside env a) ≡ slots_of env.now ++ vs
inner_slots env a vs e = slots_inside (Inside env a) env a refl ∙ ap (λ (l : List Value). slots_of env.now ++ l) e
