-- What is told of a binder, one step after another.
use Rattle.std.proofs.Common.{◌≡◌, ℕ, List, [], ◌∷◌, ◌++◌, append_assoc, sym, ap, ◌∙◌}
use Rattle.type_demands.specs.declared.demands.Demand.{Demand}
use Rattle.type_demands.specs.Scopes.{Scope}

-- a text told in the scope of bound names
pub told_bound : (o mid new a b : List Demand) (D : Scope → ℕ → List Demand) (s t : Scope) (k n : ℕ) → mid ≡ o ++ (a ++ b) → s ≡ t → k ≡ n → new ≡ mid ++ D s k → new ≡ o ++ (a ++ b ++ D t n)
told_bound o mid new a b D s t k n e f g h =
    h ∙ ap (λ x. mid ++ D x k) f ∙ ap (λ x. mid ++ D t x) g ∙ ap (λ x. x ++ D t n) e ∙ append_assoc o (a ++ b) (D t n)

-- and one demand more
pub told_last : (o mid new a b d : List Demand) (x y : Demand) → mid ≡ o ++ (a ++ b ++ d) → x ≡ y → new ≡ mid ++ x ∷ [] → new ≡ o ++ (a ++ b ++ d ++ y ∷ [])
told_last o mid new a b d x y e f h = h ∙ ap (λ z. mid ++ z ∷ []) f ∙ ap (λ z. z ++ y ∷ []) e ∙ append_assoc o (a ++ b ++ d) (y ∷ [])

-- the same without a couple of the names
pub told_plain : (o mid new a : List Demand) (D : Scope → ℕ → List Demand) (s t : Scope) (k n : ℕ) → mid ≡ o ++ (a ++ []) → s ≡ t → k ≡ n → new ≡ mid ++ D s k → new ≡ o ++ (a ++ D t n)
told_plain o mid new a D s t k n e f g h =
    h ∙ ap (λ x. mid ++ D x k) f ∙ ap (λ x. mid ++ D t x) g ∙ ap (λ x. x ++ D t n) (e ∙ ap (λ x. o ++ x) (Rattle.std.proofs.lemmas.List.append-nil a)) ∙ append_assoc o a (D t n)

pub told_plain_last : (o mid new a d : List Demand) (x y : Demand) → mid ≡ o ++ (a ++ d) → x ≡ y → new ≡ mid ++ x ∷ [] → new ≡ o ++ (a ++ d ++ y ∷ [])
told_plain_last o mid new a d x y e f h = h ∙ ap (λ z. mid ++ z ∷ []) f ∙ ap (λ z. z ++ y ∷ []) e ∙ append_assoc o (a ++ d) (y ∷ [])
