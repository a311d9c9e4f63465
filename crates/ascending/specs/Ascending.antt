-- Strictly ascending lists under an order, and the ascending list that has the members of a list.
use Rattle.std.specs.Prelude.{◌≡◌, ◌⊎◌, List, [], ◌∷◌}
use Rattle.std.specs.declared.cmp.Ordering.{Ordering}
use Rattle.std.specs.declared.cmp.Ordering.TheVariants.{Less, Equal, Greater}
use Rattle.std.specs.List.Sorted.{IsStrictlySortedBy}

-- z is a member
abbrev pub In : {K : Type 0} → K → List K → Type 0
In z [] = ⊥
In z (x ∷ xs) = (z ≡ x) ⊎ In z xs

-- each element is below all that follow it
abbrev pub IsAscending : {K : Type 0} → (K → K → Ordering) → List K → Type 0
IsAscending R xs = IsStrictlySortedBy R xs

-- x before y and ys, in the place of y, or in what comes after y
abbrev pub placed : {K : Type 0} → Ordering → K → K → List K → List K → List K
placed Less x y ys more = x ∷ y ∷ ys
placed Equal x y ys more = y ∷ ys
placed Greater x y ys more = y ∷ more

-- the ascending list with x too
abbrev pub insert : {K : Type 0} → (K → K → Ordering) → K → List K → List K
insert R x [] = x ∷ []
insert R x (y ∷ ys) = placed (R x y) x y ys (insert R x ys)

-- the ascending list with the members of this one
abbrev pub set_of : {K : Type 0} → (K → K → Ordering) → List K → List K
set_of R [] = []
set_of R (x ∷ xs) = insert R x (set_of R xs)
