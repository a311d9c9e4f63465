-- Lists with the same members, and membership in what `filter_map` gives.
use Rattle.std.proofs.Common.{◌≡◌, ◌↔◌, List, [], ◌∷◌, Option, Some, None, refl, sym, ap, ◌∙◌, inl, inr}
use Rattle.std.specs.List.{filter_map, cons_option}
use Rattle.ascending.specs.Ascending.{In}

-- the two lists have the same members
abbrev pub SameMembers : {X : Type 0} → List X → List X → Type 0
SameMembers {X} xs ys = (z : X) → In z xs ↔ In z ys

pub in_filter_map : {X Y : Type 0} (h : X → Option Y) (xs : List X) (z : Y) → In z (filter_map h xs) ↔ ((x : X) × In x xs × (h x ≡ Some z))
in_filter_map h [] z = (λ k. absurd k, λ k. absurd k.1)
in_filter_map {X} {Y} h (x ∷ xs) z = go (h x) refl (in_filter_map h xs z)
  where
    go : (o : Option Y) → h x ≡ o → In z (filter_map h xs) ↔ ((w : X) × In w xs × (h w ≡ Some z)) → In z (cons_option o (filter_map h xs)) ↔ ((w : X) × In w (x ∷ xs) × (h w ≡ Some z))
    go None e more = (
      λ m. let k = more.0 m in (k.0, inr k.1, k.2),
      λ k. elim k.1 [ inl f ↦ absurd (let g : h x ≡ Some z = ap h (sym f) ∙ k.2 in cc) | inr m ↦ more.1 (k.0, m, k.2) ],
    )
    go (Some y) e more = (
      λ m. elim m [ inl f ↦ (x, inl refl, e ∙ ap Some (sym f)) | inr n ↦ (let k = more.0 n in (k.0, inr k.1, k.2)) ],
      λ k. elim k.1 [ inl f ↦ inl (let g : h x ≡ Some z = ap h (sym f) ∙ k.2 in cc) | inr m ↦ inr (more.1 (k.0, m, k.2)) ],
    )
