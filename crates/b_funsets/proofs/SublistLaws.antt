-- The sublists of an ascending list: which they are, their order, and their number and nodes.
use Rattle.std.proofs.Common.{◌≡◌, ◌⊎◌, List, [], ◌∷◌, map, refl, sym, ap, ◌∙◌, subst, inl, inr}
use Rattle.std.specs.declared.cmp.Ordering.{Ordering}
use Rattle.std.specs.declared.cmp.Ordering.TheVariants.{Less}
use Rattle.std.specs.Ordering.{ordering_then}
use Rattle.std.specs.Cmp.{IsTotalOrder, tied_itself}
use Rattle.std.specs.Cmp.Lexicographic.{slice_cmp}
use Rattle.ascending.specs.Ascending.{In, IsAscending}
use Rattle.ascending.specs.Members.{all_in, all_from, in_append}
use Rattle.ascending.specs.AscendingLaws.{AllAbove, ascending_none, ascending_cons, ascending_head, ascending_tail, ascending_join, not_below_itself}
use Rattle.b_funsets.specs.Families.{nonempty_sublists, sublists}

-- ---- the members of a map

pub in_map : {A B : Type 0} (f : A → B) (x : A) (xs : List A) → In x xs → In (f x) (map f xs)
in_map f x [] h = absurd h
in_map f x (y ∷ ys) (inl e) = inl (ap f e)
in_map f x (y ∷ ys) (inr h) = inr (in_map f x ys h)

-- what z comes from
pub record ComesFrom {A B : Type 0} (f : A → B) (xs : List A) (z : B) : Type 0 where
  pub source : A
  pub member : In source xs
  pub is : z ≡ f source

pub map_from : {A B : Type 0} (f : A → B) (z : B) (xs : List A) → In z (map f xs) → ComesFrom f xs z
map_from f z [] h = absurd h
map_from f z (x ∷ xs) (inl e) = record { source = x; member = inl refl; is = e }
map_from f z (x ∷ xs) (inr h) = let c = map_from f z xs h in record { source = c.source; member = inr c.member; is = c.is }

-- ---- which lists the sublists are

-- a sublist of x and xs begins with x, or is one of xs
pub sublist_cases : {K : Type 0} (x : K) (xs r : List K) → In r (sublists (x ∷ xs)) → (ComesFrom (λ q. x ∷ q) (sublists xs) r) ⊎ In r (sublists xs)
sublist_cases x xs r (inl e) = inr (inl e)
sublist_cases x xs r (inr h) = elim ((in_append r (map (λ q. x ∷ q) (sublists xs)) (nonempty_sublists xs)).0 h) [
  | inl k ↦ inl (map_from (λ q. x ∷ q) r (sublists xs) k)
  | inr k ↦ inr (inr k)
]

pub with_first : {K : Type 0} (x : K) (xs r : List K) → In r (sublists xs) → In (x ∷ r) (sublists (x ∷ xs))
with_first x xs r h = inr ((in_append (x ∷ r) (map (λ q. x ∷ q) (sublists xs)) (nonempty_sublists xs)).1 (inl (in_map (λ q. x ∷ q) r (sublists xs) h)))

pub without_first : {K : Type 0} (x : K) (xs r : List K) → In r (sublists xs) → In r (sublists (x ∷ xs))
without_first x xs r (inl e) = inl e
without_first x xs r (inr h) = inr ((in_append r (map (λ q. x ∷ q) (sublists xs)) (nonempty_sublists xs)).1 (inr h))

pub sublist_within : {K : Type 0} (xs r : List K) → In r (sublists xs) → (z : K) → In z r → In z xs
sublist_within [] r (inl e) z h = subst (In z) e h
sublist_within [] r (inr k) z h = absurd k
sublist_within (x ∷ xs) r k z h = elim (sublist_cases x xs r k) [
  | inl c ↦ elim (subst (In z) c.is h) [ inl e ↦ inl e | inr m ↦ inr (sublist_within xs c.source c.member z m) ]
  | inr m ↦ inr (sublist_within xs r m z h)
]

module _ {K : Type 0} (R : K → K → Ordering) where
  pub sublist_ascends : (xs r : List K) → IsAscending R xs → In r (sublists xs) → IsAscending R r
  sublist_ascends [] r a (inl e) = subst (IsAscending R) (sym e) (ascending_none R)
  sublist_ascends [] r a (inr h) = absurd h
  sublist_ascends (x ∷ xs) r a h = elim (sublist_cases x xs r h) [
    | inl c ↦ subst (IsAscending R) (sym c.is)
        (ascending_cons R x c.source
        (all_from (λ z. R x z ≡ Less) c.source (λ z m. all_in (λ w. R x w ≡ Less) xs (ascending_head R x xs a) z (sublist_within xs c.source c.member z m)))
        (sublist_ascends xs c.source (ascending_tail R x xs a) c.member))
    | inr m ↦ sublist_ascends xs r (ascending_tail R x xs a) m
  ]

module _ {K : Type 0} (R : K → K → Ordering) (o : IsTotalOrder R) where
  -- an ascending list of members of an ascending list is a sublist of it
  pub is_sublist : (xs r : List K) → IsAscending R xs → IsAscending R r → ((z : K) → In z r → In z xs) → In r (sublists xs)
  is_sublist xs [] a b f = inl refl
  is_sublist [] (y ∷ r) a b f = absurd (f y (inl refl))
  is_sublist (x ∷ xs) (y ∷ r) a b f = elim (f y (inl refl)) [
    | inl e ↦ subst (λ w. In (w ∷ r) (sublists (x ∷ xs))) (sym e)
        (with_first x xs r (is_sublist xs r (ascending_tail R x xs a) (ascending_tail R y r b)
        (λ z m. elim (f z (inr m)) [
          | inl g ↦ absurd (not_below_itself R o x (subst (λ w. R x w ≡ Less) g (subst (λ w. R w z ≡ Less) e (all_in (λ w. R y w ≡ Less) r (ascending_head R y r b) z m))))
          | inr k ↦ k
        ])))
    | inr h ↦ without_first x xs (y ∷ r) (is_sublist xs (y ∷ r) (ascending_tail R x xs a) b
        (λ z m. elim (f z m) [
          | inl g ↦ absurd (not_below_itself R o x (above_both x y z r (all_in (λ w. R x w ≡ Less) xs (ascending_head R x xs a) y h) b m g))
          | inr k ↦ k
        ]))
  ]
    where
      above_both : (x y z : K) (r : List K) → R x y ≡ Less → IsAscending R (y ∷ r) → In z (y ∷ r) → z ≡ x → R x x ≡ Less
      above_both x y z r e b (inl k) g = subst (λ w. R x w ≡ Less) (sym k ∙ g) e
      above_both x y z r e b (inr m) g = subst (λ w. R x w ≡ Less) g (o.trans x y z e (all_in (λ w. R y w ≡ Less) r (ascending_head R y r b) z m))

  -- ---- the order of the sublists

  same_first : (x : K) (q r : List K) → slice_cmp R q r ≡ Less → slice_cmp R (x ∷ q) (x ∷ r) ≡ Less
  same_first x q r e = ap (λ t. ordering_then t (slice_cmp R q r)) (tied_itself o x) ∙ e

  all_same_first : (x : K) (q : List K) (rs : List (List K)) → AllAbove (slice_cmp R) q rs → AllAbove (slice_cmp R) (x ∷ q) (map (λ r. x ∷ r) rs)
  all_same_first x q [] h = tt
  all_same_first x q (r ∷ rs) h = (same_first x q r h.0, all_same_first x q rs h.1)

  map_first_ascends : (x : K) (rs : List (List K)) → IsAscending (slice_cmp R) rs → IsAscending (slice_cmp R) (map (λ r. x ∷ r) rs)
  map_first_ascends x [] a = ascending_none (slice_cmp R)
  map_first_ascends x (r ∷ rs) a = ascending_cons (slice_cmp R) (x ∷ r) (map (λ q. x ∷ q) rs)
      (all_same_first x r rs (ascending_head (slice_cmp R) r rs a))
      (map_first_ascends x rs (ascending_tail (slice_cmp R) r rs a))

  -- a nonempty sublist begins with a member
  pub first_is_member : (xs r : List K) (P : List K → Type 0) → In r (nonempty_sublists xs) → ((y : K) (q : List K) → In y xs → P (y ∷ q)) → P r
  first_is_member xs [] P h f = absurd (empty_is_not xs h)
    where
      empty_is_not : (xs : List K) → In [] (nonempty_sublists xs) → ⊥
      empty_is_not [] h = h
      empty_is_not (x ∷ xs) h = elim ((in_append [] (map (λ q. x ∷ q) (sublists xs)) (nonempty_sublists xs)).0 h) [
        | inl k ↦ (let c = map_from (λ q. x ∷ q) [] (sublists xs) k in let e = c.is in cc)
        | inr k ↦ empty_is_not xs k
      ]
  first_is_member xs (y ∷ q) P h f = f y q (sublist_within xs (y ∷ q) (inr h) y (inl refl))

  -- the sublists of an ascending list stand in dictionary order
  pub sublists_ascend : (xs : List K) → IsAscending R xs → IsAscending (slice_cmp R) (sublists xs)
  sublists_ascend [] a = ascending_cons (slice_cmp R) [] [] tt (ascending_none (slice_cmp R))
  sublists_ascend (x ∷ xs) a =
      let more : IsAscending (slice_cmp R) (sublists xs) = sublists_ascend xs (ascending_tail R x xs a) in
      ascending_cons (slice_cmp R) [] (nonempty_sublists (x ∷ xs))
      (all_from (λ r. slice_cmp R [] r ≡ Less) (nonempty_sublists (x ∷ xs)) (λ r h. first_is_member (x ∷ xs) r (λ q. slice_cmp R [] q ≡ Less) h (λ y q m. refl)))
      (ascending_join (slice_cmp R) (map (λ q. x ∷ q) (sublists xs)) (nonempty_sublists xs)
      (map_first_ascends x (sublists xs) more)
      (ascending_tail (slice_cmp R) [] (nonempty_sublists xs) more)
      (λ z h. let c = map_from (λ q. x ∷ q) z (sublists xs) h in
      all_from (λ r. slice_cmp R z r ≡ Less) (nonempty_sublists xs)
      (λ r m. first_is_member xs r (λ q. slice_cmp R z q ≡ Less) m
      (λ y q k. subst (λ w. slice_cmp R w (y ∷ q) ≡ Less) (sym c.is)
      (ap (λ t. ordering_then t (slice_cmp R c.source q)) (all_in (λ w. R x w ≡ Less) xs (ascending_head R x xs a) y k))))))
