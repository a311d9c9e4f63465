-- The members of a list that is filtered, mapped or made of several.
use Rattle.std.proofs.Common.{◌≡◌, ◌↔◌, Bool, true, false, cond, List, [], ◌∷◌, map, refl, sym, ap, ◌∙◌, subst, inl, inr}
use Rattle.std.specs.Prelude.{filter, IsTrue}
use Rattle.std.specs.List.{AllByRecursion, flat_map}
use Rattle.std.specs.declared.cmp.Ordering.{Ordering}
use Rattle.std.specs.declared.cmp.Ordering.TheVariants.{Less}
use Rattle.ascending.specs.Ascending.{In, IsAscending}
use Rattle.ascending.specs.Members.{all_in, all_from, in_append}
use Rattle.ascending.specs.AscendingLaws.{ascending_cons, ascending_head, ascending_tail}

pub in_filter : {X : Type 0} (p : X → Bool) (z : X) (xs : List X) → In z (filter p xs) ↔ (In z xs × IsTrue (p z))
in_filter p z [] = (λ h. absurd h, λ h. absurd h.0)
in_filter {X} p z (x ∷ xs) = go (p x) refl (in_filter p z xs)
  where
    go : (b : Bool) → p x ≡ b → In z (filter p xs) ↔ (In z xs × IsTrue (p z)) → In z (cond b (x ∷ filter p xs) (filter p xs)) ↔ (In z (x ∷ xs) × IsTrue (p z))
    go true e more = (
      λ h. elim h [ inl f ↦ (inl f, subst (λ (w : X). IsTrue (p w)) (sym f) e) | inr f ↦ (inr ((more.0 f).0), (more.0 f).1) ],
      λ h. elim (h.0) [ inl f ↦ inl f | inr f ↦ inr (more.1 (f, h.1)) ],
    )
    go false e more = (
      λ h. (inr ((more.0 h).0), (more.0 h).1),
      λ h. elim (h.0) [ inl f ↦ absurd (let t = h.1 in let u = ap p f in cc) | inr f ↦ more.1 (f, h.1) ],
    )

pub in_map : {X Y : Type 0} (f : X → Y) (z : Y) (xs : List X) → In z (map f xs) ↔ ((x : X) × In x xs × (z ≡ f x))
in_map f z [] = (λ h. absurd h, λ h. absurd h.1)
in_map f z (x ∷ xs) = (
  λ h. elim h [ inl e ↦ (x, inl refl, e) | inr m ↦ (let r = (in_map f z xs).0 m in (r.0, inr r.1, r.2)) ],
  λ h. elim (h.1) [ inl e ↦ inl (h.2 ∙ ap f e) | inr m ↦ inr ((in_map f z xs).1 (h.0, m, h.2)) ],
)

pub in_flat_map : {X Y : Type 0} (f : X → List Y) (z : Y) (xs : List X) → In z (flat_map f xs) ↔ ((x : X) × In x xs × In z (f x))
in_flat_map f z [] = (λ h. absurd h, λ h. absurd h.1)
in_flat_map {X} {Y} f z (x ∷ xs) = (
  λ h. elim ((in_append z (f x) (flat_map f xs)).0 h) [ inl m ↦ (x, inl refl, m) | inr m ↦ (let r = (in_flat_map f z xs).0 m in (r.0, inr r.1, r.2)) ],
  λ h. (in_append z (f x) (flat_map f xs)).1 (elim (h.1) [ inl e ↦ inl (subst (λ (w : X). In z (f w)) e h.2) | inr m ↦ inr ((in_flat_map f z xs).1 (h.0, m, h.2)) ]),
)

-- ---- a fact of each member

pub all_filter : {X : Type 0} (P : X → Type 0) (p : X → Bool) (xs : List X) → AllByRecursion P xs → AllByRecursion P (filter p xs)
all_filter P p xs k = all_from P (filter p xs) (λ z h. all_in P xs k z (((in_filter p z xs).0 h).0))

pub all_map : {X Y : Type 0} (P : Y → Type 0) (f : X → Y) (xs : List X) → ((x : X) → In x xs → P (f x)) → AllByRecursion P (map f xs)
all_map P f [] k = tt
all_map P f (x ∷ xs) k = (k x (inl refl), all_map P f xs (λ z h. k z (inr h)))

pub all_flat_map : {X Y : Type 0} (P : Y → Type 0) (f : X → List Y) (xs : List X) → ((x : X) → In x xs → AllByRecursion P (f x)) → AllByRecursion P (flat_map f xs)
all_flat_map P f xs k = all_from P (flat_map f xs) (λ z h. let r = (in_flat_map f z xs).0 h in all_in P (f r.0) (k r.0 r.1) z r.2)

-- ---- a filter keeps the order

pub filter_ascends : {K : Type 0} (R : K → K → Ordering) (p : K → Bool) (xs : List K) → IsAscending R xs → IsAscending R (filter p xs)
filter_ascends R p [] a = a
filter_ascends R p (x ∷ xs) a = go (p x) (filter_ascends R p xs (ascending_tail R x xs a))
  where
    go : (b : Bool) → IsAscending R (filter p xs) → IsAscending R (cond b (x ∷ filter p xs) (filter p xs))
    go true more = ascending_cons R x (filter p xs) (all_filter (λ y. R x y ≡ Less) p xs (ascending_head R x xs a)) more
    go false more = more
