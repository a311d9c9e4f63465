-- The laws of ascending lists under a total order at which only equal elements tie.
use Rattle.std.proofs.Common.{◌≡◌, ◌⊎◌, ◌↔◌, List, [], ◌∷◌, ◌++◌, refl, sym, ap, ◌∙◌, subst, inl, inr}
use Rattle.std.specs.declared.cmp.Ordering.{Ordering}
use Rattle.std.specs.declared.cmp.Ordering.TheVariants.{Less, Equal, Greater}
use Rattle.std.specs.Ordering.{ordering_reverse}
use Rattle.std.specs.Cmp.{IsTotalOrder, tied_itself}
use Rattle.std.specs.FinSet.{IsAntisymmetric}
use Rattle.std.specs.List.{AllByRecursion}
use Rattle.std.specs.List.Sorted.{IsStrictlySortedBy}
use Rattle.ascending.specs.Ascending.{In, IsAscending, placed, insert, set_of}
use Rattle.ascending.specs.Members.{all_in, all_from, all_append, all_front, all_back, in_append}

-- each element is above x
abbrev pub AllAbove : {K : Type 0} → (K → K → Ordering) → K → List K → Type 0
AllAbove R x xs = AllByRecursion (λ y. R x y ≡ Less) xs

-- ---- what holds under any order

module _ {K : Type 0} (R : K → K → Ordering) where
  pub ascending_none : IsAscending R []
  unfolding IsStrictlySortedBy
  ascending_none = tt

  pub ascending_cons : (x : K) (xs : List K) → AllAbove R x xs → IsAscending R xs → IsAscending R (x ∷ xs)
  unfolding IsStrictlySortedBy
  ascending_cons x xs h a = (h, a)

  pub ascending_head : (x : K) (xs : List K) → IsAscending R (x ∷ xs) → AllAbove R x xs
  unfolding IsStrictlySortedBy
  ascending_head x xs a = a.0

  pub ascending_tail : (x : K) (xs : List K) → IsAscending R (x ∷ xs) → IsAscending R xs
  unfolding IsStrictlySortedBy
  ascending_tail x xs a = a.1

  pub ascending_one : (x : K) → IsAscending R (x ∷ [])
  ascending_one x = ascending_cons x [] tt ascending_none

  pub ascending_front : (xs ys : List K) → IsAscending R (xs ++ ys) → IsAscending R xs
  ascending_front [] ys a = ascending_none
  ascending_front (x ∷ xs) ys a =
      ascending_cons x xs (all_front (λ z. R x z ≡ Less) xs ys (ascending_head x (xs ++ ys) a)) (ascending_front xs ys (ascending_tail x (xs ++ ys) a))

  pub ascending_back : (xs ys : List K) → IsAscending R (xs ++ ys) → IsAscending R ys
  ascending_back [] ys a = a
  ascending_back (x ∷ xs) ys a = ascending_back xs ys (ascending_tail x (xs ++ ys) a)

  -- each element of the front is below the whole back
  pub ascending_across : (xs ys : List K) → IsAscending R (xs ++ ys) → (z : K) → In z xs → AllAbove R z ys
  ascending_across [] ys a z h = absurd h
  ascending_across (x ∷ xs) ys a z (inl e) = subst (λ v. AllAbove R v ys) (sym e) (all_back (λ w. R x w ≡ Less) xs ys (ascending_head x (xs ++ ys) a))
  ascending_across (x ∷ xs) ys a z (inr h) = ascending_across xs ys (ascending_tail x (xs ++ ys) a) z h

  pub ascending_join : (xs ys : List K) → IsAscending R xs → IsAscending R ys → ((z : K) → In z xs → AllAbove R z ys) → IsAscending R (xs ++ ys)
  ascending_join [] ys a b f = b
  ascending_join (x ∷ xs) ys a b f =
      ascending_cons x (xs ++ ys) (all_append (λ w. R x w ≡ Less) xs ys (ascending_head x xs a) (f x (inl refl)))
      (ascending_join xs ys (ascending_tail x xs a) b (λ z h. f z (inr h)))

  pub ascending_push : (xs : List K) (x : K) → IsAscending R xs → ((z : K) → In z xs → R z x ≡ Less) → IsAscending R (xs ++ x ∷ [])
  ascending_push xs x a f = ascending_join xs (x ∷ []) a (ascending_one x) (λ z h. (f z h, tt))

-- ---- what holds under a total order

module _ {K : Type 0} (R : K → K → Ordering) (o : IsTotalOrder R) where
  pub not_below_itself : (x : K) → R x x ≡ Less → ⊥
  not_below_itself x e = let t = tied_itself o x in cc

  pub below_from_above : (x y : K) → R x y ≡ Greater → R y x ≡ Less
  below_from_above x y e = o.antisymm y x ∙ ap ordering_reverse e

  pub above_from_below : (x y : K) → R x y ≡ Less → R y x ≡ Greater
  above_from_below x y e = o.antisymm y x ∙ ap ordering_reverse e

  -- what is above y is above all below y
  pub all_above_lower : (x y : K) (ys : List K) → R x y ≡ Less → AllAbove R y ys → AllAbove R x ys
  all_above_lower x y [] e k = tt
  all_above_lower x y (z ∷ zs) e k = (o.trans x y z e k.0, all_above_lower x y zs e k.1)

  -- what is below the first of an ascending list is below all of it
  pub below_first : (x y : K) (ys : List K) → R x y ≡ Less → IsAscending R (y ∷ ys) → AllAbove R x (y ∷ ys)
  below_first x y ys e a = (e, all_above_lower x y ys e (ascending_head R y ys a))

  -- what is above the last of an ascending list is above all of it
  pub above_last : (xs : List K) (y x : K) → IsAscending R (xs ++ y ∷ []) → R y x ≡ Less → (z : K) → In z (xs ++ y ∷ []) → R z x ≡ Less
  above_last xs y x a e z h = elim ((in_append z xs (y ∷ [])).0 h) [
    | inl f ↦ o.trans z y x (ascending_across R xs (y ∷ []) a z f).0 e
    | inr f ↦ elim f [ inl g ↦ subst (λ w. R w x ≡ Less) (sym g) e | inr g ↦ absurd g ]
  ]

-- ---- what holds where only equal elements tie

module _ {K : Type 0} (R : K → K → Ordering) (o : IsTotalOrder R) (one : IsAntisymmetric R) where
  in_insert : (z x : K) (ys : List K) → In z (insert R x ys) ↔ ((z ≡ x) ⊎ In z ys)
  in_insert z x [] = (λ h. h, λ h. h)
  in_insert z x (y ∷ ys) = go (in_insert z x ys) (R x y) refl
    where
      go : In z (insert R x ys) ↔ ((z ≡ x) ⊎ In z ys) → (r : Ordering) → R x y ≡ r → In z (placed r x y ys (insert R x ys)) ↔ ((z ≡ x) ⊎ In z (y ∷ ys))
      go more Less e = (λ h. h, λ h. h)
      go more Equal e = (λ h. inr h, λ h. elim h [ inl f ↦ inl (f ∙ one x y e) | inr f ↦ f ])
      go more Greater e = (
        λ h. elim h [ inl f ↦ inr (inl f) | inr f ↦ elim (more.0 f) [ inl g ↦ inl g | inr g ↦ inr (inr g) ] ],
        λ h. elim h [ inl f ↦ inr (more.1 (inl f)) | inr f ↦ elim f [ inl g ↦ inl g | inr g ↦ inr (more.1 (inr g)) ] ],
      )

  -- the set has the list's members
  pub in_set_of : (z : K) (xs : List K) → In z (set_of R xs) ↔ In z xs
  in_set_of z [] = (λ h. h, λ h. h)
  in_set_of z (x ∷ xs) = (
    λ h. elim ((in_insert z x (set_of R xs)).0 h) [ inl e ↦ inl e | inr e ↦ inr ((in_set_of z xs).0 e) ],
    λ h. (in_insert z x (set_of R xs)).1 (elim h [ inl e ↦ inl e | inr e ↦ inr ((in_set_of z xs).1 e) ]),
  )

  insert_ascends : (x : K) (ys : List K) → IsAscending R ys → IsAscending R (insert R x ys)
  insert_ascends x [] a = ascending_one R x
  insert_ascends x (y ∷ ys) a = go (insert_ascends x ys (ascending_tail R y ys a)) (R x y) refl
    where
      go : IsAscending R (insert R x ys) → (r : Ordering) → R x y ≡ r → IsAscending R (placed r x y ys (insert R x ys))
      go more Less e = ascending_cons R x (y ∷ ys) (below_first R o x y ys e a) a
      go more Equal e = a
      go more Greater e = ascending_cons R y (insert R x ys)
          (all_from (λ z. R y z ≡ Less) (insert R x ys) (λ z h. elim ((in_insert z x ys).0 h) [
            | inl f ↦ subst (λ w. R y w ≡ Less) (sym f) (below_from_above R o x y e)
            | inr f ↦ all_in (λ w. R y w ≡ Less) ys (ascending_head R y ys a) z f
          ]))
          more

  pub set_of_ascends : (xs : List K) → IsAscending R (set_of R xs)
  set_of_ascends [] = ascending_none R
  set_of_ascends (x ∷ xs) = insert_ascends x (set_of R xs) (set_of_ascends xs)

  -- two ascending lists with the same members are equal
  pub same_members : (xs ys : List K) → IsAscending R xs → IsAscending R ys → ((z : K) → In z xs ↔ In z ys) → xs ≡ ys
  same_members [] [] a b f = refl
  same_members [] (y ∷ ys) a b f = absurd ((f y).1 (inl refl))
  same_members (x ∷ xs) [] a b f = absurd ((f x).0 (inl refl))
  same_members (x ∷ xs) (y ∷ ys) a b f = heads (same_members xs ys (ascending_tail R x xs a) (ascending_tail R y ys b)) ((f x).0 (inl refl)) ((f y).1 (inl refl))
    where
      above_x : (z : K) → In z xs → R x z ≡ Less
      above_x = all_in (λ w. R x w ≡ Less) xs (ascending_head R x xs a)

      above_y : (z : K) → In z ys → R y z ≡ Less
      above_y = all_in (λ w. R y w ≡ Less) ys (ascending_head R y ys b)

      tails : (e : x ≡ y) → (z : K) → In z xs ↔ In z ys
      tails e z = (
        λ h. elim ((f z).0 (inr h)) [ inl g ↦ absurd (not_below_itself R o x (subst (λ w. R x w ≡ Less) (g ∙ sym e) (above_x z h))) | inr g ↦ g ],
        λ h. elim ((f z).1 (inr h)) [ inl g ↦ absurd (not_below_itself R o y (subst (λ w. R y w ≡ Less) (g ∙ e) (above_y z h))) | inr g ↦ g ],
      )

      heads : (((z : K) → In z xs ↔ In z ys) → xs ≡ ys) → In x (y ∷ ys) → In y (x ∷ xs) → x ∷ xs ≡ y ∷ ys
      heads more (inl e) k = let t = more (tails e) in cc
      heads more (inr h) (inl e) = let t = more (tails (sym e)) in cc
      heads more (inr h) (inr k) = absurd (not_below_itself R o x (o.trans x y x (above_x y k) (above_y x h)))

  -- an ascending list with the members of xs is its set
  pub is_set_of : (xs ys : List K) → IsAscending R ys → ((z : K) → In z ys ↔ In z xs) → ys ≡ set_of R xs
  is_set_of xs ys a f = same_members ys (set_of R xs) a (set_of_ascends xs) (λ z. (λ h. (in_set_of z xs).1 ((f z).0 h), λ h. (f z).1 ((in_set_of z xs).0 h)))

  -- an ascending list is its own set
  pub set_of_itself : (xs : List K) → IsAscending R xs → set_of R xs ≡ xs
  set_of_itself xs a = sym (is_set_of xs xs a (λ z. (λ h. h, λ h. h)))

  -- lists with the same members have one set
  pub set_of_same : (xs ys : List K) → ((z : K) → In z xs ↔ In z ys) → set_of R xs ≡ set_of R ys
  set_of_same xs ys f = is_set_of ys (set_of R xs) (set_of_ascends xs) (λ z. (λ h. (f z).0 ((in_set_of z xs).0 h), λ h. (in_set_of z xs).1 ((f z).1 h)))
