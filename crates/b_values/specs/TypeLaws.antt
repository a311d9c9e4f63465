-- What it is to be of a type, type by type.
use Rattle.std.proofs.Common.{◌≡◌, ◌↔◌, ℕ, ℤ, Bool, List, refl, sym, ap, ◌∙◌, subst}
use Rattle.std.specs.List.{AllByRecursion}
use Rattle.b_values.specs.Types.{HasType, LayerHasType, IsText, IsElement}
use Rattle.b_values.specs.declared.types.SetFace.{SetFace}
use Rattle.b_values.specs.declared.types.Ty.{Ty, out-Ty, roll-Ty, roll-out-Ty, map-Ty, rec-roll-Ty}
use Rattle.b_values.specs.declared.types.Ty.TheOpen.{Ty-F}
use Rattle.b_values.specs.declared.types.Ty.TheVariants.{Int as IntTy, Truth as TruthTy, Text as TextTy, Elem as ElemTy, Pair as PairTy, Set as SetTy, outs-Int as outs-IntTy, outs-Truth as outs-TruthTy, outs-Text as outs-TextTy, outs-Elem as outs-ElemTy, outs-Pair as outs-PairTy, outs-Set as outs-SetTy}
use Rattle.b_values.specs.declared.values.Value.{Value, out-Value}
use Rattle.b_values.specs.declared.values.Value.TheOpen.{Value-F}
use Rattle.b_values.specs.declared.values.Value.TheVariants.{Int, Truth, Text, Elem, Pair, Set, outs-Int, outs-Truth, outs-Text, outs-Elem, outs-Pair, outs-Set}

-- a layer's parts may be named by anything that stands for a type
natural : (sets : List SetFace) (X : Type 0) (v : X → Ty) (k : Ty → Value → Type 0) (x : Ty-F X) → ◌≡◌ {A = Value → Type 0} (λ w. LayerHasType sets (λ p. k (v p)) x (out-Value w)) (λ w. LayerHasType sets k (map-Ty X Ty v x) (out-Value w))
natural sets X v k Ty-F.Int = refl
natural sets X v k Ty-F.Truth = refl
natural sets X v k Ty-F.Text = refl
natural sets X v k (Ty-F.Elem s) = refl
natural sets X v k (Ty-F.Pair t u) = refl
natural sets X v k (Ty-F.Set t) = refl

-- a layer of a type
typed_roll : (sets : List SetFace) (d : Ty-F Ty) → ◌≡◌ {A = Value → Type 0} (HasType sets (roll-Ty d)) (λ w. LayerHasType sets (HasType sets) d (out-Value w))
typed_roll sets d = rec-roll-Ty (Value → Type 0) (λ T ty Has t v. LayerHasType sets Has t (out-Value v)) (natural sets) d

-- to be of a type is to have its layer
pub typed_at : (sets : List SetFace) (t : Ty) (d : Ty-F Ty) (v : Value) (y : Value-F Value) → out-Ty t ≡ d → out-Value v ≡ y → HasType sets t v ↔ LayerHasType sets (HasType sets) d y
typed_at sets t d v y e f = subst (λ t. HasType sets t v ↔ LayerHasType sets (HasType sets) d y) (ap roll-Ty (sym e) ∙ roll-out-Ty t)
    (subst (λ z. HasType sets (roll-Ty d) v ↔ LayerHasType sets (HasType sets) d z) f same)
  where
    same : HasType sets (roll-Ty d) v ↔ LayerHasType sets (HasType sets) d (out-Value v)
    same = subst (λ (F : Value → Type 0). HasType sets (roll-Ty d) v ↔ F v) (typed_roll sets d) (λ h. h, λ h. h)

pub typed-Int : (sets : List SetFace) (n : ℤ) → HasType sets IntTy (Int n)
typed-Int sets n = (typed_at sets _ _ _ _ outs-IntTy (outs-Int n)).1 tt

pub typed-Truth : (sets : List SetFace) (b : Bool) → HasType sets TruthTy (Truth b)
typed-Truth sets b = (typed_at sets _ _ _ _ outs-TruthTy (outs-Truth b)).1 tt

pub typed-Text : (sets : List SetFace) (s : List ℕ) → HasType sets TextTy (Text s) ↔ IsText s
typed-Text sets s = typed_at sets _ _ _ _ outs-TextTy (outs-Text s)

pub typed-Elem : (sets : List SetFace) (k set index : ℕ) → HasType sets (ElemTy k) (Elem set index) ↔ ((set ≡ k) × IsElement sets set index)
typed-Elem sets k set index = typed_at sets _ _ _ _ (outs-ElemTy k) (outs-Elem set index)

pub typed-Pair : (sets : List SetFace) (t u : Ty) (a b : Value) → HasType sets (PairTy t u) (Pair a b) ↔ (HasType sets t a × HasType sets u b)
typed-Pair sets t u a b = typed_at sets _ _ _ _ (outs-PairTy t u) (outs-Pair a b)

pub typed-Set : (sets : List SetFace) (t : Ty) (xs : List Value) → HasType sets (SetTy t) (Set xs) ↔ AllByRecursion (HasType sets t) xs
typed-Set sets t xs = typed_at sets _ _ _ _ (outs-SetTy t) (outs-Set xs)
