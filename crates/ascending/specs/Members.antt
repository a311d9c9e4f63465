-- The laws of membership, and of a fact of each member.
use Rattle.std.proofs.Common.{◌≡◌, ◌⊎◌, ◌↔◌, ◌<◌, ℕ, zero, suc, List, [], ◌∷◌, ◌++◌, length, get_or, arith, sym, refl, subst, inl, inr}
use Rattle.std.specs.List.{AllByRecursion, Contains}
use Rattle.std.specs.List.Sorted.{IsPermutation}
use Rattle.std.proofs.lemmas.List.Sorted.{Contains-permutation, IsPermutation-sym}
use Rattle.ascending.specs.Ascending.{In}

-- ---- a fact of each member

pub all_in : {X : Type 0} (P : X → Type 0) (xs : List X) → AllByRecursion P xs → (z : X) → In z xs → P z
all_in P [] k z h = absurd h
all_in P (x ∷ xs) k z (inl e) = subst P (sym e) k.0
all_in P (x ∷ xs) k z (inr h) = all_in P xs k.1 z h

pub all_from : {X : Type 0} (P : X → Type 0) (xs : List X) → ((z : X) → In z xs → P z) → AllByRecursion P xs
all_from P [] f = tt
all_from P (x ∷ xs) f = (f x (inl refl), all_from P xs (λ z h. f z (inr h)))

pub all_append : {X : Type 0} (P : X → Type 0) (xs ys : List X) → AllByRecursion P xs → AllByRecursion P ys → AllByRecursion P (xs ++ ys)
all_append P [] ys h k = k
all_append P (x ∷ xs) ys h k = (h.0, all_append P xs ys h.1 k)

pub all_front : {X : Type 0} (P : X → Type 0) (xs ys : List X) → AllByRecursion P (xs ++ ys) → AllByRecursion P xs
all_front P [] ys h = tt
all_front P (x ∷ xs) ys h = (h.0, all_front P xs ys h.1)

pub all_back : {X : Type 0} (P : X → Type 0) (xs ys : List X) → AllByRecursion P (xs ++ ys) → AllByRecursion P ys
all_back P [] ys h = h
all_back P (x ∷ xs) ys h = all_back P xs ys h.1

pub all_weaker : {X : Type 0} (P Q : X → Type 0) → ((x : X) → P x → Q x) → (xs : List X) → AllByRecursion P xs → AllByRecursion Q xs
all_weaker P Q f [] k = tt
all_weaker P Q f (x ∷ xs) k = (f x k.0, all_weaker P Q f xs k.1)

-- ---- membership

pub in_append : {X : Type 0} (z : X) (xs ys : List X) → In z (xs ++ ys) ↔ (In z xs ⊎ In z ys)
in_append z [] ys = (λ h. inr h, λ h. elim h [ inl e ↦ absurd e | inr e ↦ e ])
in_append z (x ∷ xs) ys = (
  λ h. elim h [ inl e ↦ inl (inl e) | inr e ↦ elim ((in_append z xs ys).0 e) [ inl f ↦ inl (inr f) | inr f ↦ inr f ] ],
  λ h. elim h [ inl e ↦ elim e [ inl f ↦ inl f | inr f ↦ inr ((in_append z xs ys).1 (inl f)) ] | inr e ↦ inr ((in_append z xs ys).1 (inr e)) ],
)

pub in_push : {X : Type 0} (z : X) (xs : List X) (x : X) → In z (xs ++ x ∷ []) ↔ (In z xs ⊎ (z ≡ x))
in_push z xs x = (
  λ h. elim ((in_append z xs (x ∷ [])).0 h) [ inl e ↦ inl e | inr e ↦ elim e [ inl f ↦ inr f | inr f ↦ absurd f ] ],
  λ h. (in_append z xs (x ∷ [])).1 (elim h [ inl e ↦ inl e | inr e ↦ inr (inl e) ]),
)

-- what stands at a place is a member
pub in_at : {X : Type 0} (xs : List X) (i : ℕ) (d : X) → i < length xs → In (get_or xs i d) xs
in_at [] i d h = absurd (omega arith)
in_at (x ∷ xs) zero d h = inl refl
in_at (x ∷ xs) (suc i) d h = inr (in_at xs i d (omega arith))

-- ---- membership in std's word, by places

pub in_from_contains : {X : Type 0} (xs : List X) (x : X) → Contains xs x → In x xs
in_from_contains xs x c = subst (λ w. In w xs) c.2 (in_at xs c.0 x c.1)

pub contains_from_in : {X : Type 0} (xs : List X) (x : X) → In x xs → Contains xs x
contains_from_in [] x h = absurd h
contains_from_in (y ∷ ys) x (inl e) = (0, omega arith, sym e)
contains_from_in (y ∷ ys) x (inr h) = let c = contains_from_in ys x h in (suc c.0, (let l = c.1 in omega arith), c.2)

pub in_permutation : {X : Type 0} (xs ys : List X) (x : X) → IsPermutation xs ys → In x xs ↔ In x ys
in_permutation xs ys x p = (
  λ h. in_from_contains ys x (Contains-permutation xs ys x p (contains_from_in xs x h)),
  λ h. in_from_contains xs x (Contains-permutation ys xs x (IsPermutation-sym xs ys p) (contains_from_in ys x h)),
)
