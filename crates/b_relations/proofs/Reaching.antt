-- What a relation reaches in some steps, and the laws of its closures.
use Rattle.std.proofs.Common.{◌≡◌, ◌⊎◌, ◌↔◌, ◌+◌, ◌<◌, ◌≤◌, ℕ, zero, suc, List, length, arith, refl, ap, subst, inl, inr}
use Rattle.std.specs.List.{flat_map, range_with_len}
use Rattle.ascending.specs.Ascending.{In}
use Rattle.b_values.specs.declared.values.Value.{Value}
use Rattle.b_values.specs.declared.values.Value.TheVariants.{Pair}
use Rattle.set_making.specs.ListMembers.{in_flat_map}
use Rattle.b_relations.specs.CoupleLaws.{in_couple_map}
use Rattle.b_relations.specs.Relations.{InDomain, InRange, Leads, couples, composed, field, iterated, closure1_members, closure_members}
use Rattle.b_relations.proofs.RowLaws.{in_composed, related}
use Rattle.b_relations.proofs.Paths.{Reaches, iterated_none, iterated_next, iterated_one, iterated_add, in_field, reached_soon}

abbrev pub Parts : Type 0
Parts = List (Value × Value)

-- all of ps are among qs
abbrev pub Within : Parts → Parts → Type 0
Within ps qs = (x y : Value) → In (x, y) ps → In (x, y) qs

-- ---- numbers in a range

in_range : (a n k : ℕ) → In k (range_with_len a n) ↔ ((a ≤ k) × (k < a + n))
in_range a zero k = (λ h. absurd h, λ h. absurd (let l = h.0 in let m = h.1 in omega arith))
in_range a (suc n) k =
    let more = in_range (a + 1) n k in (
      λ h. elim h [ inl e ↦ (omega arith, omega arith) | inr m ↦ (let r = more.0 m in let l = r.0 in let u = r.1 in (omega arith, omega arith)) ],
      λ h. let l = h.0 in let u = h.1 in elim (eq_or_above a k l) [ inl e ↦ inl e | inr g ↦ inr (more.1 (omega arith, omega arith)) ],
    )
  where
    eq_or_above : (a k : ℕ) → a ≤ k → (k ≡ a) ⊎ (a + 1 ≤ k)
    eq_or_above zero zero h = inl refl
    eq_or_above zero (suc k) h = inr (omega arith)
    eq_or_above (suc a) zero h = absurd (omega arith)
    eq_or_above (suc a) (suc k) h = elim (eq_or_above a k (omega arith)) [ inl e ↦ inl (ap suc e) | inr g ↦ inr (omega arith) ]

-- ---- the iterates that the closures list

-- those from 1 on
abbrev pub from_one : Parts → Parts
from_one ps = flat_map (iterated ps) (range_with_len 1 (length ps))

-- those from 0 on
abbrev pub from_none : Parts → Parts
from_none ps = flat_map (iterated ps) (range_with_len 0 (length ps + 1))

after_one : (k : ℕ) → 1 ≤ k → (n : ℕ) × (k ≡ suc n)
after_one zero h = absurd (omega arith)
after_one (suc n) h = (n, refl)

pub in_from_one : (ps : Parts) (x z : Value) → In (x, z) (from_one ps) ↔ Reaches ps x z
in_from_one ps x z =
    let all = in_flat_map (iterated ps) (x, z) (range_with_len 1 (length ps)) in (
      λ h. let k = all.0 h in let r = (in_range 1 (length ps) k.0).0 k.1 in let n = after_one k.0 r.0 in (n.0, subst (λ i. In (x, z) (iterated ps i)) n.1 k.2),
      λ h. let s = reached_soon ps x z h in let l = s.1 in all.1 (suc s.0, (in_range 1 (length ps) (suc s.0)).1 (omega arith, omega arith), s.2),
    )

pub in_from_none : (ps : Parts) (x z : Value) → In (x, z) (from_none ps) ↔ (In (x, z) (iterated ps 0) ⊎ Reaches ps x z)
in_from_none ps x z =
    let all = in_flat_map (iterated ps) (x, z) (range_with_len 0 (length ps + 1)) in (
      λ h. let k = all.0 h in cases k.0 k.2,
      λ h. elim h [
        | inl m ↦ all.1 (0, (in_range 0 (length ps + 1) 0).1 (omega arith, omega arith), m)
        | inr m ↦ (let s = reached_soon ps x z m in let l = s.1 in all.1 (suc s.0, (in_range 0 (length ps + 1) (suc s.0)).1 (omega arith, omega arith), s.2))
      ],
    )
  where
    cases : (k : ℕ) → In (x, z) (iterated ps k) → In (x, z) (iterated ps 0) ⊎ Reaches ps x z
    cases zero m = inl m
    cases (suc n) m = inr (n, m)

-- ---- what is reached

pub reaches_first : (ps : Parts) (x z : Value) → In (x, z) ps → Reaches ps x z
reaches_first ps x z h = (0, (iterated_one ps x z).1 h)

pub reaches_on : (ps : Parts) (x y z : Value) → Reaches ps x y → Reaches ps y z → Reaches ps x z
reaches_on ps x y z h k =
    let same : suc h.0 + suc k.0 ≡ suc (h.0 + suc k.0) = omega arith in
    (h.0 + suc k.0, subst (λ i. In (x, z) (iterated ps i)) same (iterated_add ps (suc h.0) (suc k.0) x y z h.1 k.1))

-- what holds of each couple and goes over a third holds of all that is reached
pub reaches_least : (ps : Parts) (P : Value → Value → Type 0) → ((x y : Value) → In (x, y) ps → P x y) → ((x y z : Value) → P x y → P y z → P x z) → (x z : Value) → Reaches ps x z → P x z
reaches_least ps P one on x z h = go h.0 x z h.1
  where
    go : (n : ℕ) (x z : Value) → In (x, z) (iterated ps (suc n)) → P x z
    go zero x z m = one x z ((iterated_one ps x z).0 m)
    go (suc n) x z m = let k = (iterated_next ps (suc n) x z).0 m in on x k.0 z (go n x k.0 k.1) (one k.0 z k.2)

-- with the square, no more is reached
pub square_reaches : (ps qs : Parts) → ((x y : Value) → In (x, y) qs ↔ (In (x, y) ps ⊎ In (x, y) (composed ps ps))) → (x z : Value) → Reaches qs x z ↔ Reaches ps x z
square_reaches ps qs f x z = (
  λ h. reaches_least qs (Reaches ps) (λ a b m. elim ((f a b).0 m) [
    | inl k ↦ reaches_first ps a b k
    | inr k ↦ (let c = (in_composed ps ps a b).0 k in reaches_on ps a c.0 b (reaches_first ps a c.0 c.1) (reaches_first ps c.0 b c.2))
  ]) (reaches_on ps) x z h,
  λ h. reaches_least ps (Reaches qs) (λ a b m. reaches_first qs a b ((f a b).1 (inl m))) (reaches_on qs) x z h,
)

-- where the square is within the relation, the relation is all that is reached
pub closed_reaches : (ps : Parts) → Within (composed ps ps) ps → (x z : Value) → Reaches ps x z → In (x, z) ps
closed_reaches ps h = reaches_least ps (λ x z. In (x, z) ps) (λ x y m. m) (λ x y z m k. h x z ((in_composed ps ps x z).1 (y, m, k)))

-- relations with the same couples reach the same
pub same_reaches : (ps qs : Parts) → ((x y : Value) → In (x, y) ps ↔ In (x, y) qs) → (x z : Value) → Reaches ps x z ↔ Reaches qs x z
same_reaches ps qs f x z = (
  λ h. reaches_least ps (Reaches qs) (λ a b m. reaches_first qs a b ((f a b).0 m)) (reaches_on qs) x z h,
  λ h. reaches_least qs (Reaches ps) (λ a b m. reaches_first ps a b ((f a b).1 m)) (reaches_on ps) x z h,
)

-- ---- in the words of the relation

pub in_closure1 : (r x z : Value) → In (Pair x z) (closure1_members r) ↔ Reaches (couples r) x z
in_closure1 r x z =
    let whole = in_couple_map (from_one (couples r)) (x, z) in
    let all = in_from_one (couples r) x z in
    (λ h. all.0 (whole.0 h), λ h. whole.1 (all.1 h))

pub in_closure : (r x z : Value) → In (Pair x z) (closure_members r) ↔ (In (x, z) (iterated (couples r) 0) ⊎ Reaches (couples r) x z)
in_closure r x z =
    let whole = in_couple_map (from_none (couples r)) (x, z) in
    let all = in_from_none (couples r) x z in
    (λ h. all.0 (whole.0 h), λ h. whole.1 (all.1 h))

pub stands : (r x : Value) → In x (field (couples r)) ↔ (InDomain r x ⊎ InRange r x)
stands r x =
    let f = in_field (couples r) x in (
      λ h. elim (f.0 h) [ inl k ↦ inl (k.0, (related r x k.0).0 k.1) | inr k ↦ inr (k.0, (related r k.0 x).0 k.1) ],
      λ h. f.1 (elim h [ inl k ↦ inl (k.0, (related r x k.0).1 k.1) | inr k ↦ inr (k.0, (related r k.0 x).1 k.1) ]),
    )

pub leads : (r : Value) (n : ℕ) (x z : Value) → In (x, z) (iterated (couples r) n) ↔ Leads r n x z
leads r zero x z =
    let all = iterated_none (couples r) x z in
    let f = stands r x in
    (λ h. let k = all.0 h in (k.0, f.0 k.1), λ h. all.1 (h.0, f.1 h.1))
leads r (suc n) x z =
    let all = iterated_next (couples r) n x z in (
      λ h. let k = all.0 h in (k.0, (leads r n x k.0).0 k.1, (related r k.0 z).0 k.2),
      λ h. all.1 (h.0, (leads r n x h.0).1 h.1, (related r h.0 z).1 h.2),
    )
