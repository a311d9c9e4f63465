-- Types are equal where their forms and parts are.
use Rattle.std.proofs.Common.{◌≡◌, ◌≤◌, ◌+◌, ℕ, arith, refl, sym, ap, ◌∙◌, subst}
use Rattle.b_values.specs.declared.types.Ty.{Ty, out-Ty, map-Ty, fold_out-Ty}
use Rattle.b_values.specs.declared.types.Ty.TheOpen.{Ty-F}
use Rattle.b_values.specs.declared.types.Ty.TheVariants.{Pair, Set, outs-Int, outs-Truth, outs-Text, outs-Elem, outs-Pair, outs-Set}
use Rattle.type_table.specs.declared.rows.Basic.{Basic}
use Rattle.type_table.specs.declared.rows.Basic.TheVariants as basic
use Rattle.type_table.specs.Types.{nodes_layer, type_nodes, basic_type}

-- ---- nodes

nodes_at : (t : Ty) (x : Ty-F Ty) → out-Ty t ≡ x → type_nodes t ≡ nodes_layer (map-Ty Ty ℕ type_nodes x)
nodes_at t x e = fold_out-Ty ℕ nodes_layer t ∙ ap (λ y. nodes_layer (map-Ty Ty ℕ type_nodes y)) e

pub nodes-Set : (t : Ty) → type_nodes (Set t) ≡ 1 + type_nodes t
nodes-Set t = nodes_at _ _ (outs-Set t)

pub nodes-Pair : (t u : Ty) → type_nodes (Pair t u) ≡ 1 + type_nodes t + type_nodes u
nodes-Pair t u = nodes_at _ _ (outs-Pair t u)

pub nodes-basic : (b : Basic) → type_nodes (basic_type b) ≡ 1
nodes-basic basic.Int = nodes_at _ _ outs-Int
nodes-basic basic.Truth = nodes_at _ _ outs-Truth
nodes-basic basic.Text = nodes_at _ _ outs-Text
nodes-basic (basic.Elem k) = nodes_at _ _ (outs-Elem k)

some_layer : (x : Ty-F ℕ) → 1 ≤ nodes_layer x
some_layer Ty-F.Int = omega arith
some_layer Ty-F.Truth = omega arith
some_layer Ty-F.Text = omega arith
some_layer (Ty-F.Elem k) = omega arith
some_layer (Ty-F.Pair m n) = omega arith
some_layer (Ty-F.Set n) = omega arith

pub nodes_some : (t : Ty) → 1 ≤ type_nodes t
nodes_some t = subst (λ n. 1 ≤ n) (sym (nodes_at t (out-Ty t) refl)) (some_layer (map-Ty Ty ℕ type_nodes (out-Ty t)))

-- ---- forms

pub set_same : (t u : Ty) → Set t ≡ Set u → t ≡ u
set_same t u e = let f = outs-Set t in let g = outs-Set u in let h = ap out-Ty e in cc

pub pair_first : (t u v w : Ty) → Pair t u ≡ Pair v w → t ≡ v
pair_first t u v w e = let f = outs-Pair t u in let g = outs-Pair v w in let h = ap out-Ty e in cc

pub pair_second : (t u v w : Ty) → Pair t u ≡ Pair v w → u ≡ w
pair_second t u v w e = let f = outs-Pair t u in let g = outs-Pair v w in let h = ap out-Ty e in cc

pub set_no_pair : (t u v : Ty) → Set t ≡ Pair u v → ⊥
set_no_pair t u v e = let f = outs-Set t in let g = outs-Pair u v in let h = ap out-Ty e in absurd cc

abbrev basic_form : Basic → Ty-F Ty
basic_form basic.Int = Ty-F.Int
basic_form basic.Truth = Ty-F.Truth
basic_form basic.Text = Ty-F.Text
basic_form (basic.Elem k) = Ty-F.Elem k

outs_basic : (b : Basic) → out-Ty (basic_type b) ≡ basic_form b
outs_basic basic.Int = outs-Int
outs_basic basic.Truth = outs-Truth
outs_basic basic.Text = outs-Text
outs_basic (basic.Elem k) = outs-Elem k

basic_form_no_set : (b : Basic) (t : Ty) → basic_form b ≡ Ty-F.Set t → ⊥
basic_form_no_set basic.Int t e = absurd cc
basic_form_no_set basic.Truth t e = absurd cc
basic_form_no_set basic.Text t e = absurd cc
basic_form_no_set (basic.Elem k) t e = absurd cc

basic_form_no_pair : (b : Basic) (t u : Ty) → basic_form b ≡ Ty-F.Pair t u → ⊥
basic_form_no_pair basic.Int t u e = absurd cc
basic_form_no_pair basic.Truth t u e = absurd cc
basic_form_no_pair basic.Text t u e = absurd cc
basic_form_no_pair (basic.Elem k) t u e = absurd cc

pub basic_no_set : (b : Basic) (t : Ty) → basic_type b ≡ Set t → ⊥
basic_no_set b t e = basic_form_no_set b t (sym (outs_basic b) ∙ ap out-Ty e ∙ outs-Set t)

pub basic_no_pair : (b : Basic) (t u : Ty) → basic_type b ≡ Pair t u → ⊥
basic_no_pair b t u e = basic_form_no_pair b t u (sym (outs_basic b) ∙ ap out-Ty e ∙ outs-Pair t u)

abbrev named : {X : Type 0} → Ty-F X → Basic
named Ty-F.Truth = basic.Truth
named Ty-F.Text = basic.Text
named (Ty-F.Elem k) = basic.Elem k
named x = basic.Int

named_basic : (b : Basic) → named (basic_form b) ≡ b
named_basic basic.Int = refl
named_basic basic.Truth = refl
named_basic basic.Text = refl
named_basic (basic.Elem k) = refl

pub basic_same : (b c : Basic) → basic_type b ≡ basic_type c → b ≡ c
basic_same b c e = sym (named_basic b) ∙ ap named (sym (outs_basic b) ∙ ap out-Ty e ∙ outs_basic c) ∙ named_basic c
