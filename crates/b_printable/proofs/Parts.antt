-- What holds of parts that may be missing.
use Rattle.std.proofs.Common.{◌≡◌, ℕ, zero, suc, Bool, true, false, cond, List, [], ◌∷◌, map, length, Option, Some, None, refl, ap}
use Rattle.std.specs.Prelude.{IfSome, slice_get, option_map, option_and_then}
use Rattle.std.specs.List.{AllByRecursion}
use Rattle.b_expand.specs.Expansion.{both, all_three, all_of}

-- of what is made from one
pub mapped_if : {X Y : Type 0} (P : X → Type 0) (R : Y → Type 0) (f : X → Y) → ((x : X) → P x → R (f x)) → (o : Option X) → IfSome o P → IfSome (option_map f o) R
mapped_if P R f go None h = tt
mapped_if P R f go (Some x) h = go x h

-- of what follows from one
pub then_if : {X Y : Type 0} (P : X → Type 0) (R : Y → Type 0) (f : X → Option Y) → ((x : X) → P x → IfSome (f x) R) → (o : Option X) → IfSome o P → IfSome (option_and_then f o) R
then_if P R f go None h = tt
then_if P R f go (Some x) h = go x h

-- of what is made from two
pub both_if : {X Y Z : Type 0} (P : X → Type 0) (Q : Y → Type 0) (R : Z → Type 0) (f : X → Y → Z) → ((x : X) (y : Y) → P x → Q y → R (f x y)) → (o : Option X) (q : Option Y) → IfSome o P → IfSome q Q → IfSome (both f o q) R
both_if P Q R f go (Some x) (Some y) h k = go x y h k
both_if P Q R f go (Some x) None h k = tt
both_if P Q R f go None q h k = tt

-- of what is made from three
pub three_if : {W X Y Z : Type 0} (O : W → Type 0) (P : X → Type 0) (Q : Y → Type 0) (R : Z → Type 0) (f : W → X → Y → Z) → ((w : W) (x : X) (y : Y) → O w → P x → Q y → R (f w x y)) → (o : Option W) (p : Option X) (q : Option Y)
    → IfSome o O → IfSome p P → IfSome q Q → IfSome (all_three f o p q) R
three_if O P Q R f go (Some w) (Some x) (Some y) h k l = go w x y h k l
three_if O P Q R f go (Some w) (Some x) None h k l = tt
three_if O P Q R f go (Some w) None q h k l = tt
three_if O P Q R f go None p q h k l = tt

-- of what a test leaves
pub tested_if : {X : Type 0} (P : X → Type 0) (b : Bool) (o : Option X) → IfSome o P → IfSome (cond b o None) P
tested_if P true o h = h
tested_if P false o h = tt

-- of what a test refuses
pub refused_if : {X : Type 0} (P : X → Type 0) (b : Bool) (o : Option X) → IfSome o P → IfSome (cond b None o) P
refused_if P true o h = tt
refused_if P false o h = h

-- of each of some, and they are as many
abbrev pub AreAll : {X : Type 0} → (X → Type 0) → ℕ → List X → Type 0
AreAll P n xs = AllByRecursion P xs × (length xs ≡ n)

-- of all, where all are there
pub all_if : {X : Type 0} (P : X → Type 0) (os : List (Option X)) → AllByRecursion (λ o. IfSome o P) os → IfSome (all_of os) (AreAll P (length os))
all_if P [] h = (tt, refl)
all_if {X} P (o ∷ os) h =
    both_if P (AreAll P (length os)) (AreAll P (suc (length os))) (λ x xs. x ∷ xs) (λ x xs one more. ((one, more.0), ap (λ (n : ℕ). suc n) more.1)) o (all_of os) h.0 (all_if P os h.1)

-- of an element at a place
pub at_if : {X : Type 0} (P : X → Type 0) (xs : List X) (i : ℕ) → AllByRecursion P xs → IfSome (slice_get xs i) P
at_if P [] i h = tt
at_if P (x ∷ xs) zero h = h.0
at_if P (x ∷ xs) (suc i) h = at_if P xs i h.1

-- of each element's image
pub each_if : {X Y : Type 0} (P : X → Type 0) (Q : Y → Type 0) (f : X → Y) → ((x : X) → P x → Q (f x)) → (xs : List X) → AllByRecursion P xs → AllByRecursion Q (map f xs)
each_if P Q f go [] h = tt
each_if P Q f go (x ∷ xs) h = (go x h.0, each_if P Q f go xs h.1)

-- as many images as elements
pub many_mapped : {X Y : Type 0} (f : X → Y) (xs : List X) → length (map f xs) ≡ length xs
many_mapped f [] = refl
many_mapped f (x ∷ xs) = ap (λ (n : ℕ). suc n) (many_mapped f xs)

-- of the image of each, where it follows from what holds of each
pub each_image : {X Y : Type 0} (P : X → Type 0) (G : Y → Type 0) (f : X → Y) (xs : List X) → AllByRecursion P xs → AllByRecursion (λ x. P x → G (f x)) xs → AllByRecursion G (map f xs)
each_image P G f [] h k = tt
each_image P G f (x ∷ xs) h k = (k.0 h.0, each_image P G f xs h.1 k.1)
