-- Which members the rows have, in terms of which values the operands relate.
use Rattle.std.proofs.Common.{◌≡◌, ◌⊎◌, ◌↔◌, Bool, true, not, List, [], ◌∷◌, ◌++◌, map, refl, sym, ap, ◌∙◌, subst, inl, inr}
use Rattle.std.specs.List.{filter, flat_map}
use Rattle.ascending.specs.Ascending.{In}
use Rattle.ascending.specs.Members.{in_append}
use Rattle.b_values.specs.SameLaws.{value_decides}
use Rattle.b_values.specs.Values.{elements, same_value}
use Rattle.b_values.specs.declared.values.Value.{Value}
use Rattle.b_values.specs.declared.values.Value.TheVariants.{Pair}
use Rattle.set_making.specs.ListMembers.{in_map, in_filter, in_flat_map}
use Rattle.b_relations.proofs.Steps.{all_pass}
use Rattle.b_relations.specs.CoupleLaws.{same_parts, in_couples, in_couple_map, not_among}
use Rattle.set_making.specs.Making.{is_among}
use Rattle.set_making.specs.MakingLaws.{is_among_finds}
use Rattle.b_relations.specs.Relations.{couple, couples, Relates, InDomain, InRange, composed, dom_members, ran_members, converse_members, identity_members, image_members, dom_restrict_members, dom_subtract_members, ran_restrict_members, ran_subtract_members, overwrite_members, compose_members, direct_members, parallel_members, prj1_members, prj2_members}

-- a pair of values is a couple of the relation where it relates them
pub related : (r x y : Value) → In (x, y) (couples r) ↔ Relates r x y
related r x y = in_couples (elements r) (x, y)

-- ---- one operand

pub in_dom : (r x : Value) → In x (dom_members r) ↔ InDomain r x
in_dom r x = (
  λ h. let k = (in_map (λ (p : Value × Value). p.0) x (couples r)).0 h in (k.0.1, subst (λ w. Relates r w k.0.1) (sym k.2) ((related r k.0.0 k.0.1).0 k.1)),
  λ h. (in_map (λ (p : Value × Value). p.0) x (couples r)).1 ((x, h.0), (related r x h.0).1 h.1, refl),
)

pub in_ran : (r y : Value) → In y (ran_members r) ↔ InRange r y
in_ran r y = (
  λ h. let k = (in_map (λ (p : Value × Value). p.1) y (couples r)).0 h in (k.0.0, subst (λ w. Relates r k.0.0 w) (sym k.2) ((related r k.0.0 k.0.1).0 k.1)),
  λ h. (in_map (λ (p : Value × Value). p.1) y (couples r)).1 ((h.0, y), (related r h.0 y).1 h.1, refl),
)

-- the parts of equal couples
pub firsts : (a b c d : Value) → Pair a b ≡ Pair c d → a ≡ c
firsts a b c d e = ap (λ p. p.0) (same_parts (a, b) (c, d) e)

pub seconds : (a b c d : Value) → Pair a b ≡ Pair c d → b ≡ d
seconds a b c d e = ap (λ p. p.1) (same_parts (a, b) (c, d) e)

pub in_converse : (r x y : Value) → In (Pair x y) (converse_members r) ↔ Relates r y x
in_converse r x y = (
  λ h. let k = (in_map (λ (p : Value × Value). Pair p.1 p.0) (Pair x y) (couples r)).0 h in
      subst (λ w. Relates r w x) (sym (seconds x y k.0.1 k.0.0 k.2)) (subst (λ w. Relates r k.0.0 w) (sym (firsts x y k.0.1 k.0.0 k.2)) ((related r k.0.0 k.0.1).0 k.1)),
  λ h. (in_map (λ (p : Value × Value). Pair p.1 p.0) (Pair x y) (couples r)).1 ((y, x), (related r y x).1 h, refl),
)

pub in_identity : (s x y : Value) → In (Pair x y) (identity_members s) ↔ ((x ≡ y) × In x (elements s))
in_identity s x y = (
  λ h. let k = (in_map (λ (w : Value). Pair w w) (Pair x y) (elements s)).0 h in
      let e = firsts x y k.0 k.0 k.2 in
      (e ∙ sym (seconds x y k.0 k.0 k.2), subst (λ w. In w (elements s)) (sym e) k.1),
  λ h. (in_map (λ (w : Value). Pair w w) (Pair x y) (elements s)).1 (x, h.1, ap (λ w. Pair x w) (sym h.0)),
)

-- ---- restrictions

pub in_image : (r s y : Value) → In y (image_members r s) ↔ ((x : Value) × In x (elements s) × Relates r x y)
in_image r s y = (
  λ h. let k = (in_map (λ (p : Value × Value). p.1) y _).0 h in
      let f = (in_filter (λ (p : Value × Value). is_among (elements s) p.0) k.0 (couples r)).0 k.1 in
      (k.0.0, (is_among_finds (elements s) k.0.0).0 f.1, subst (λ w. Relates r k.0.0 w) (sym k.2) ((related r k.0.0 k.0.1).0 f.0)),
  λ h. (in_map (λ (p : Value × Value). p.1) y _).1
      ((h.0, y), (in_filter (λ (p : Value × Value). is_among (elements s) p.0) (h.0, y) (couples r)).1 ((related r h.0 y).1 h.2, (is_among_finds (elements s) h.0).1 h.1), refl),
)

-- the couples that pass a test
in_chosen : (r : Value) (p : Value × Value → Bool) (x y : Value) → In (Pair x y) (map couple (filter p (couples r))) ↔ (Relates r x y × (p (x, y) ≡ true))
in_chosen r p x y = (
  λ h. let f = (in_filter p (x, y) (couples r)).0 ((in_couple_map (filter p (couples r)) (x, y)).0 h) in ((related r x y).0 f.0, f.1),
  λ h. (in_couple_map (filter p (couples r)) (x, y)).1 ((in_filter p (x, y) (couples r)).1 ((related r x y).1 h.0, h.1)),
)

pub in_dom_restrict : (s r x y : Value) → In (Pair x y) (dom_restrict_members s r) ↔ (In x (elements s) × Relates r x y)
in_dom_restrict s r x y =
    let k = in_chosen r (λ p. is_among (elements s) p.0) x y in
    let t = is_among_finds (elements s) x in
    (λ h. let f = k.0 h in (t.0 f.1, f.0), λ h. k.1 (h.1, t.1 h.0))

pub in_dom_subtract : (s r x y : Value) → In (Pair x y) (dom_subtract_members s r) ↔ ((¬ In x (elements s)) × Relates r x y)
in_dom_subtract s r x y =
    let k = in_chosen r (λ p. not (is_among (elements s) p.0)) x y in
    let t = not_among (elements s) x in
    (λ h. let f = k.0 h in (t.0 f.1, f.0), λ h. k.1 (h.1, t.1 h.0))

pub in_ran_restrict : (r s x y : Value) → In (Pair x y) (ran_restrict_members r s) ↔ (Relates r x y × In y (elements s))
in_ran_restrict r s x y =
    let k = in_chosen r (λ p. is_among (elements s) p.1) x y in
    let t = is_among_finds (elements s) y in
    (λ h. let f = k.0 h in (f.0, t.0 f.1), λ h. k.1 (h.0, t.1 h.1))

pub in_ran_subtract : (r s x y : Value) → In (Pair x y) (ran_subtract_members r s) ↔ (Relates r x y × (¬ In y (elements s)))
in_ran_subtract r s x y =
    let k = in_chosen r (λ p. not (is_among (elements s) p.1)) x y in
    let t = not_among (elements s) y in
    (λ h. let f = k.0 h in (f.0, t.0 f.1), λ h. k.1 (h.0, t.1 h.1))

pub in_overwrite : (r s x y : Value) → In (Pair x y) (overwrite_members r s) ↔ (Relates s x y ⊎ (Relates r x y × (¬ InDomain s x)))
in_overwrite r s x y =
    let p : Value × Value → Bool = λ q. not (is_among (dom_members s) q.0) in
    let all = in_append (x, y) (filter p (couples r)) (couples s) in
    let t = not_among (dom_members s) x in
    let d = in_dom s x in
    let whole = in_couple_map (filter p (couples r) ++ couples s) (x, y) in (
      λ h. elim (all.0 (whole.0 h)) [
        | inl m ↦ (let f = (in_filter p (x, y) (couples r)).0 m in inr ((related r x y).0 f.0, λ g. t.0 f.1 (d.1 g)))
        | inr m ↦ inl ((related s x y).0 m)
      ],
      λ h. whole.1 (all.1 (elim h [
        | inl m ↦ inr ((related s x y).1 m)
        | inr m ↦ inl ((in_filter p (x, y) (couples r)).1 ((related r x y).1 m.0, t.1 (λ g. m.1 (d.0 g))))
      ])),
    )

-- ---- couples joined

-- x and z of a composition, by lists of parts
pub in_composed : (ps qs : List (Value × Value)) (x z : Value) → In (x, z) (composed ps qs) ↔ ((y : Value) × In (x, y) ps × In (y, z) qs)
in_composed ps qs x z = (
  λ h. let k = (in_flat_map (λ (p : Value × Value). map (λ q. (p.0, q.1)) (filter (λ q. same_value q.0 p.1) qs)) (x, z) ps).0 h in
      let m = (in_map (λ (q : Value × Value). (k.0.0, q.1)) (x, z) (filter (λ q. same_value q.0 k.0.1) qs)).0 k.2 in
      let f = (in_filter (λ (q : Value × Value). same_value q.0 k.0.1) m.0 qs).0 m.1 in
      let same : m.0.0 ≡ k.0.1 = (value_decides m.0.0 k.0.1).0 f.1 in
      let left : x ≡ k.0.0 = ap (λ p. p.0) m.2 in
      let right : z ≡ m.0.1 = ap (λ p. p.1) m.2 in
      (k.0.1, subst (λ w. In (w, k.0.1) ps) (sym left) k.1, subst (λ w. In (k.0.1, w) qs) (sym right) (subst (λ w. In (w, m.0.1) qs) same f.0)),
  λ h. (in_flat_map (λ (p : Value × Value). map (λ q. (p.0, q.1)) (filter (λ q. same_value q.0 p.1) qs)) (x, z) ps).1 (
    (x, h.0),
    h.1,
    (in_map (λ (q : Value × Value). (x, q.1)) (x, z) (filter (λ q. same_value q.0 h.0) qs)).1
        ((h.0, z), (in_filter (λ (q : Value × Value). same_value q.0 h.0) (h.0, z) qs).1 (h.2, (value_decides h.0 h.0).1 refl), refl),
  ),
)

pub in_compose : (r s x z : Value) → In (Pair x z) (compose_members r s) ↔ ((y : Value) × Relates r x y × Relates s y z)
in_compose r s x z =
    let all = in_composed (couples r) (couples s) x z in
    let whole = in_couple_map (composed (couples r) (couples s)) (x, z) in (
      λ h. let k = all.0 (whole.0 h) in (k.0, (related r x k.0).0 k.1, (related s k.0 z).0 k.2),
      λ h. whole.1 (all.1 (h.0, (related r x h.0).1 h.1, (related s h.0 z).1 h.2)),
    )

-- ---- couples joined, as values

-- what is made of each couple of the first and each couple of the second that goes with it
abbrev pub joined : (Value × Value → Value × Value → Bool) → (Value × Value → Value × Value → Value) → List (Value × Value) → List (Value × Value) → List Value
joined meets make ps qs = flat_map (λ p. map (make p) (filter (meets p) qs)) ps

pub in_joined : (meets : Value × Value → Value × Value → Bool) (make : Value × Value → Value × Value → Value) (ps qs : List (Value × Value)) (z : Value)
    → In z (joined meets make ps qs) ↔ ((p : Value × Value) × (q : Value × Value) × In p ps × In q qs × (meets p q ≡ true) × (z ≡ make p q))
in_joined meets make ps qs z = (
  λ h. let k = (in_flat_map (λ p. map (make p) (filter (meets p) qs)) z ps).0 h in
      let m = (in_map (make k.0) z (filter (meets k.0) qs)).0 k.2 in
      let f = (in_filter (meets k.0) m.0 qs).0 m.1 in
      (k.0, m.0, k.1, f.0, f.1, m.2),
  λ h. (in_flat_map (λ p. map (make p) (filter (meets p) qs)) z ps).1
      (h.0, h.2, (in_map (make h.0) z (filter (meets h.0) qs)).1 (h.1, (in_filter (meets h.0) h.1 qs).1 (h.3, h.4), h.5)),
)

pub in_direct : (r s x y z : Value) → In (Pair x (Pair y z)) (direct_members r s) ↔ (Relates r x y × Relates s x z)
in_direct r s x y z =
    let all = in_joined (λ p q. same_value q.0 p.0) (λ p q. Pair p.0 (Pair p.1 q.1)) (couples r) (couples s) (Pair x (Pair y z)) in (
      λ h. let k = all.0 h in
          let e : x ≡ k.0.0 = firsts x (Pair y z) k.0.0 (Pair k.0.1 k.1.1) k.5 in
          let inner : Pair y z ≡ Pair k.0.1 k.1.1 = seconds x (Pair y z) k.0.0 (Pair k.0.1 k.1.1) k.5 in
          let f : y ≡ k.0.1 = firsts y z k.0.1 k.1.1 inner in
          let g : z ≡ k.1.1 = seconds y z k.0.1 k.1.1 inner in
          let same : k.1.0 ≡ k.0.0 = (value_decides k.1.0 k.0.0).0 k.4 in (
            subst (λ w. Relates r w y) (sym e) (subst (λ w. Relates r k.0.0 w) (sym f) ((related r k.0.0 k.0.1).0 k.2)),
            subst (λ w. Relates s w z) (same ∙ sym e) (subst (λ w. Relates s k.1.0 w) (sym g) ((related s k.1.0 k.1.1).0 k.3)),
          ),
      λ h. all.1 ((x, y), (x, z), (related r x y).1 h.0, (related s x z).1 h.1, (value_decides x x).1 refl, refl),
    )

pub all_joined : (make : Value × Value → Value × Value → Value) (ps qs : List (Value × Value)) → joined (λ p q. true) make ps qs ≡ flat_map (λ p. map (make p) qs) ps
all_joined make [] qs = refl
all_joined make (p ∷ ps) qs = rw (all_pass qs) (ap (λ more. map (make p) qs ++ more) (all_joined make ps qs))

pub in_parallel : (r s x y z w : Value) → In (Pair (Pair x y) (Pair z w)) (parallel_members r s) ↔ (Relates r x z × Relates s y w)
in_parallel r s x y z w =
    let v = Pair (Pair x y) (Pair z w) in
    let make : Value × Value → Value × Value → Value = λ p q. Pair (Pair p.0 q.0) (Pair p.1 q.1) in
    let all = subst (λ l. In v l ↔ ((p : Value × Value) × (q : Value × Value) × In p (couples r) × In q (couples s) × (true ≡ true) × (v ≡ make p q)))
    (all_joined make (couples r) (couples s)) (in_joined (λ p q. true) make (couples r) (couples s) v) in (
      λ h. let k = all.0 h in
          let left = firsts (Pair x y) (Pair z w) (Pair k.0.0 k.1.0) (Pair k.0.1 k.1.1) k.5 in
          let right = seconds (Pair x y) (Pair z w) (Pair k.0.0 k.1.0) (Pair k.0.1 k.1.1) k.5 in (
            subst (λ u. Relates r u z) (sym (firsts x y k.0.0 k.1.0 left)) (subst (λ u. Relates r k.0.0 u) (sym (firsts z w k.0.1 k.1.1 right)) ((related r k.0.0 k.0.1).0 k.2)),
            subst (λ u. Relates s u w) (sym (seconds x y k.0.0 k.1.0 left)) (subst (λ u. Relates s k.1.0 u) (sym (seconds z w k.0.1 k.1.1 right)) ((related s k.1.0 k.1.1).0 k.3)),
          ),
      λ h. all.1 ((x, z), (y, w), (related r x z).1 h.0, (related s y w).1 h.1, refl, refl),
    )

-- ---- projections

in_products : (make : Value → Value → Value) (xs ys : List Value) (z : Value) → In z (flat_map (λ x. map (make x) ys) xs) ↔ ((x : Value) × (y : Value) × In x xs × In y ys × (z ≡ make x y))
in_products make xs ys z = (
  λ h. let k = (in_flat_map (λ x. map (make x) ys) z xs).0 h in let m = (in_map (make k.0) z ys).0 k.2 in (k.0, m.0, k.1, m.1, m.2),
  λ h. (in_flat_map (λ x. map (make x) ys) z xs).1 (h.0, h.2, (in_map (make h.0) z ys).1 (h.1, h.3, h.4)),
)

pub in_prj1 : (s t x y z : Value) → In (Pair (Pair x y) z) (prj1_members s t) ↔ (In x (elements s) × In y (elements t) × (z ≡ x))
in_prj1 s t x y z =
    let all = in_products (λ a b. Pair (Pair a b) a) (elements s) (elements t) (Pair (Pair x y) z) in (
      λ h. let k = all.0 h in
          let left = firsts (Pair x y) z (Pair k.0 k.1) k.0 k.4 in
          let e = firsts x y k.0 k.1 left in
          (subst (λ w. In w (elements s)) (sym e) k.2, subst (λ w. In w (elements t)) (sym (seconds x y k.0 k.1 left)) k.3, seconds (Pair x y) z (Pair k.0 k.1) k.0 k.4 ∙ sym e),
      λ h. all.1 (x, y, h.0, h.1, ap (Pair (Pair x y)) h.2),
    )

pub in_prj2 : (s t x y z : Value) → In (Pair (Pair x y) z) (prj2_members s t) ↔ (In x (elements s) × In y (elements t) × (z ≡ y))
in_prj2 s t x y z =
    let all = in_products (λ a b. Pair (Pair a b) b) (elements s) (elements t) (Pair (Pair x y) z) in (
      λ h. let k = all.0 h in
          let left = firsts (Pair x y) z (Pair k.0 k.1) k.1 k.4 in
          let e = seconds x y k.0 k.1 left in
          (subst (λ w. In w (elements s)) (sym (firsts x y k.0 k.1 left)) k.2, subst (λ w. In w (elements t)) (sym e) k.3, seconds (Pair x y) z (Pair k.0 k.1) k.1 k.4 ∙ sym e),
      λ h. all.1 (x, y, h.0, h.1, ap (Pair (Pair x y)) h.2),
    )
