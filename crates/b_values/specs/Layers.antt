-- Induction over values, layer by layer.
use Rattle.std.proofs.Common.{◌≡◌, List, [], ◌∷◌, map, refl, ap, subst}
use Rattle.std.specs.List.{AllByRecursion}
use Rattle.b_values.specs.declared.values.Value.{Value, roll-Value, map-Value, ind-Value}
use Rattle.b_values.specs.declared.values.Value.TheOpen.{Value-F}

-- of each value right below
abbrev pub Below : (Value → Type 0) → Value-F Value → Type 0
Below P (Value-F.Pair a b) = P a × P b
Below P (Value-F.Set xs) = AllByRecursion P xs
Below P x = Unit {0}

each_of : (P : Value → Type 0) (es : List ((v : Value) × P v)) → AllByRecursion P (map (λ e. e.0) es)
each_of P [] = tt
each_of P (e ∷ es) = (e.1, each_of P es)

below_of : (P : Value → Type 0) (y : Value-F ((v : Value) × P v)) → Below P (map-Value ((v : Value) × P v) Value (λ e. e.0) y)
below_of P (Value-F.Int n) = tt
below_of P (Value-F.Truth b) = tt
below_of P (Value-F.Text s) = tt
below_of P (Value-F.Elem s i) = tt
below_of P (Value-F.Pair a b) = (a.1, b.1)
below_of P (Value-F.Set es) = each_of P es

-- what holds of a layer whose parts have it holds of every value
pub by_layers : (P : Value → Type 0) → ((x : Value-F Value) → Below P x → P (roll-Value x)) → (v : Value) → P v
by_layers P step = ind-Value P (λ x y is. step x (subst (Below P) is (below_of P y)))

lift_each : (P : Value → Type 0) (xs : List Value) → AllByRecursion P xs → (es : List ((v : Value) × P v)) × (map (λ e. e.0) es ≡ xs)
lift_each P [] k = ([], refl)
lift_each P (x ∷ xs) k = let r = lift_each P xs k.1 in ((x, k.0) ∷ r.0, ap (λ ys. x ∷ ys) r.1)

-- a layer with the facts of its parts beside them
pub lift : (P : Value → Type 0) (x : Value-F Value) → Below P x → (y : Value-F ((v : Value) × P v)) × (map-Value ((v : Value) × P v) Value (λ e. e.0) y ≡ x)
lift P (Value-F.Int n) k = (Value-F.Int n, refl)
lift P (Value-F.Truth b) k = (Value-F.Truth b, refl)
lift P (Value-F.Text s) k = (Value-F.Text s, refl)
lift P (Value-F.Elem s i) k = (Value-F.Elem s i, refl)
lift P (Value-F.Pair a b) k = (Value-F.Pair (a, k.0) (b, k.1), refl)
lift P (Value-F.Set xs) k = let r = lift_each P xs k in (Value-F.Set r.0, ap Value-F.Set r.1)

pub unlift : (P : Value → Type 0) (x : Value-F Value) → (y : Value-F ((v : Value) × P v)) × (map-Value ((v : Value) × P v) Value (λ e. e.0) y ≡ x) → Below P x
unlift P x r = subst (Below P) r.1 (below_of P r.0)
