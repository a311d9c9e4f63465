-- How large a type is: it bounds how deep the readers call one another.
use Rattle.std.proofs.Common.{◌≡◌, ◌+◌, ℕ, sym, ap, ◌∙◌}
use Rattle.b_values.specs.declared.types.Ty.{Ty, out-Ty, roll-Ty, fold-Ty, fold-roll-Ty}
use Rattle.b_values.specs.declared.types.Ty.TheOpen.{Ty-F}
use Rattle.b_values.specs.declared.types.Ty.TheVariants as ty

abbrev pub size_layer : Ty-F ℕ → ℕ
size_layer Ty-F.Int = 1
size_layer Ty-F.Truth = 1
size_layer Ty-F.Text = 1
size_layer (Ty-F.Elem k) = 1
size_layer (Ty-F.Pair a b) = 1 + a + b
size_layer (Ty-F.Set a) = 1 + a

unfoldable pub size : Ty → ℕ
size = fold-Ty ℕ size_layer

pub size-Pair : (a b : Ty) → size (ty.Pair a b) ≡ 1 + size a + size b
unfolding size
size-Pair a b = ap size (sym (ty.rolls-Pair a b)) ∙ fold-roll-Ty ℕ size_layer (Ty-F.Pair a b)

pub size-Set : (a : Ty) → size (ty.Set a) ≡ 1 + size a
unfolding size
size-Set a = ap size (sym (ty.rolls-Set a)) ∙ fold-roll-Ty ℕ size_layer (Ty-F.Set a)
