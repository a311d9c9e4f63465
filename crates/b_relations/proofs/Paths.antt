-- Iterates of a relation: how they add up, and that each couple of one is in an iterate up to the number of couples.
use Rattle.std.proofs.Common.{◌≡◌, ◌⊎◌, ◌↔◌, ◌+◌, ◌<◌, ◌≤◌, ℕ, zero, suc, Bool, true, false, ◌||◌, List, [], ◌∷◌, ◌++◌, map, length, arith, refl, sym, ap, ◌∙◌, subst, inl, inr}
use Rattle.std.specs.List.{AllByRecursion, IsDistinct, list_any}
use Rattle.std.specs.Cmp.{eq_by_cmp_equiv}
use Rattle.std.proofs.lemmas.Map.Made.{length-le_from_is_member}
use Rattle.ascending.specs.Ascending.{In}
use Rattle.ascending.specs.Members.{in_append}
use Rattle.b_values.specs.OrderLaws.{value_total}
use Rattle.b_values.specs.SameLaws.{value_decides}
use Rattle.b_values.specs.Values.{same_value}
use Rattle.b_values.specs.declared.values.Value.{Value}
use Rattle.set_making.specs.ListMembers.{in_map}
use Rattle.b_relations.specs.CoupleLaws.{same_parts, in_couple_map}
use Rattle.b_relations.specs.Relations.{couple, field, iterated}
use Rattle.b_relations.proofs.RowLaws.{in_composed}

-- ---- what stands in a couple

pub in_field : (ps : List (Value × Value)) (x : Value) → In x (field ps) ↔ (((y : Value) × In (x, y) ps) ⊎ ((y : Value) × In (y, x) ps))
in_field ps x =
    let all = in_append x (map (λ (p : Value × Value). p.0) ps) (map (λ (p : Value × Value). p.1) ps) in
    let left = in_map (λ (p : Value × Value). p.0) x ps in
    let right = in_map (λ (p : Value × Value). p.1) x ps in (
      λ h. elim (all.0 h) [
        | inl m ↦ (let k = left.0 m in inl (k.0.1, subst (λ w. In (w, k.0.1) ps) (sym k.2) k.1))
        | inr m ↦ (let k = right.0 m in inr (k.0.0, subst (λ w. In (k.0.0, w) ps) (sym k.2) k.1))
      ],
      λ h. all.1 (elim h [ inl m ↦ inl (left.1 ((x, m.0), m.1, refl)) | inr m ↦ inr (right.1 ((m.0, x), m.1, refl)) ]),
    )

pub first_in_field : (ps : List (Value × Value)) (x y : Value) → In (x, y) ps → In x (field ps)
first_in_field ps x y h = (in_field ps x).1 (inl (y, h))

pub second_in_field : (ps : List (Value × Value)) (x y : Value) → In (x, y) ps → In y (field ps)
second_in_field ps x y h = (in_field ps y).1 (inr (x, h))

-- ---- iterates

pub iterated_none : (ps : List (Value × Value)) (x z : Value) → In (x, z) (iterated ps 0) ↔ ((x ≡ z) × In x (field ps))
iterated_none ps x z =
    let all = in_map (λ (w : Value). (w, w)) (x, z) (field ps) in (
      λ h. let k = all.0 h in
          let left : x ≡ k.0 = ap (λ p. p.0) k.2 in
          let right : z ≡ k.0 = ap (λ p. p.1) k.2 in
          (left ∙ sym right, subst (λ w. In w (field ps)) (sym left) k.1),
      λ h. all.1 (x, h.1, ap (λ w. (x, w)) (sym h.0)),
    )

pub iterated_next : (ps : List (Value × Value)) (n : ℕ) (x z : Value) → In (x, z) (iterated ps (suc n)) ↔ ((y : Value) × In (x, y) (iterated ps n) × In (y, z) ps)
iterated_next ps n x z = in_composed (iterated ps n) ps x z

-- the first iterate is the relation itself
pub iterated_one : (ps : List (Value × Value)) (x z : Value) → In (x, z) (iterated ps 1) ↔ In (x, z) ps
iterated_one ps x z = (
  λ h. let k = (iterated_next ps 0 x z).0 h in let e = ((iterated_none ps x k.0).0 k.1).0 in subst (λ w. In (w, z) ps) (sym e) k.2,
  λ h. (iterated_next ps 0 x z).1 (x, (iterated_none ps x x).1 (refl, first_in_field ps x z h), h),
)

-- m steps and then n are m + n
pub iterated_add : (ps : List (Value × Value)) (m n : ℕ) (x y z : Value) → In (x, y) (iterated ps m) → In (y, z) (iterated ps n) → In (x, z) (iterated ps (m + n))
iterated_add ps m zero x y z h k =
    let e = ((iterated_none ps y z).0 k).0 in
    let same : m ≡ m + 0 = omega arith in
    subst (λ i. In (x, z) (iterated ps i)) same (subst (λ w. In (x, w) (iterated ps m)) e h)
iterated_add ps m (suc n) x y z h k =
    let f = (iterated_next ps n y z).0 k in
    let same : suc (m + n) ≡ m + suc n = omega arith in
    subst (λ i. In (x, z) (iterated ps i)) same ((iterated_next ps (m + n) x z).1 (f.0, iterated_add ps m n x y f.0 h f.1, f.2))

-- m + n steps are m and then n
pub iterated_split : (ps : List (Value × Value)) (m n : ℕ) (x z : Value) → In (x, z) (iterated ps (m + n)) → (y : Value) × In (x, y) (iterated ps m) × In (y, z) (iterated ps n)
iterated_split ps m zero x z h =
    let same : m + 0 ≡ m = omega arith in
    let g : In (x, z) (iterated ps m) = subst (λ i. In (x, z) (iterated ps i)) same h in
    (z, g, (iterated_none ps z z).1 (refl, ends_in_field ps m x z g))
  where
    ends_in_field : (ps : List (Value × Value)) (m : ℕ) (x z : Value) → In (x, z) (iterated ps m) → In z (field ps)
    ends_in_field ps zero x z h = let k = (iterated_none ps x z).0 h in subst (λ w. In w (field ps)) k.0 k.1
    ends_in_field ps (suc m) x z h = let k = (iterated_next ps m x z).0 h in second_in_field ps k.0 z k.2
iterated_split ps m (suc n) x z h =
    let same : m + suc n ≡ suc (m + n) = omega arith in
    let f = (iterated_next ps (m + n) x z).0 (subst (λ i. In (x, z) (iterated ps i)) same h) in
    let g = iterated_split ps m n x f.0 f.1 in
    (g.0, g.1, (iterated_next ps n g.0 z).1 (f.0, g.2, f.2))

-- ---- paths: couples each of which begins where the one before ends

abbrev pub IsPath : List (Value × Value) → Value → List (Value × Value) → Value → Type 0
IsPath ps x [] z = x ≡ z
IsPath ps x (c ∷ cs) z = (x ≡ c.0) × In c ps × IsPath ps c.1 cs z

path_then : (ps : List (Value × Value)) (x : Value) (cs : List (Value × Value)) (y z : Value) → IsPath ps x cs y → In (y, z) ps → IsPath ps x (cs ++ (y, z) ∷ []) z
path_then ps x [] y z h k = (h, k, refl)
path_then ps x (c ∷ cs) y z h k = (h.0, h.1, path_then ps c.1 cs y z h.2 k)

-- an iterate's couple has a path
path_of : (ps : List (Value × Value)) (n : ℕ) (x z : Value) → In (x, z) (iterated ps n) → (cs : List (Value × Value)) × IsPath ps x cs z
path_of ps zero x z h = ([], ((iterated_none ps x z).0 h).0)
path_of ps (suc n) x z h = let k = (iterated_next ps n x z).0 h in let p = path_of ps n x k.0 k.1 in (p.0 ++ (k.0, z) ∷ [], path_then ps x p.0 k.0 z p.1 k.2)

-- a path is an iterate's couple
path_iterated : (ps : List (Value × Value)) (x : Value) (cs : List (Value × Value)) (z : Value) → IsPath ps x cs z → In z (field ps) → In (x, z) (iterated ps (length cs))
path_iterated ps x [] z h f = (iterated_none ps x z).1 (h, subst (λ w. In w (field ps)) (sym h) f)
path_iterated ps x (c ∷ cs) z h f =
    let first : In (x, c.1) (iterated ps 1) = (iterated_one ps x c.1).1 (subst (λ w. In (w, c.1) ps) (sym h.0) h.1) in
    let same : 1 + length cs ≡ suc (length cs) = omega arith in
    subst (λ i. In (x, z) (iterated ps i)) same (iterated_add ps 1 (length cs) x c.1 z first (path_iterated ps c.1 cs z h.2 f))

path_members : (ps : List (Value × Value)) (x : Value) (cs : List (Value × Value)) (z : Value) → IsPath ps x cs z → (d : Value × Value) → In d cs → In d ps
path_members ps x [] z h d m = absurd m
path_members ps x (c ∷ cs) z h d (inl e) = subst (λ w. In w ps) (sym e) h.1
path_members ps x (c ∷ cs) z h d (inr m) = path_members ps c.1 cs z h.2 d m

-- ---- paths without repeated couples

-- no couple stands twice
abbrev Once : List (Value × Value) → Type 0
Once cs = IsDistinct same_value (map couple cs)

-- what follows a couple of the path
suffix : (ps : List (Value × Value)) (y : Value) (cs : List (Value × Value)) (z : Value) (d : Value × Value) → IsPath ps y cs z → Once cs → In d cs
    → (rest : List (Value × Value)) × IsPath ps d.1 rest z × Once (d ∷ rest)
unfolding IsDistinct
suffix ps y [] z d h o m = absurd m
suffix ps y (c ∷ cs) z d h o (inl e) = (cs, subst (λ w. IsPath ps w.1 cs z) (sym e) h.2, subst (λ w. Once (w ∷ cs)) (sym e) o)
suffix ps y (c ∷ cs) z d h o (inr m) = suffix ps c.1 cs z d h.2 o.1 m

different : (d : Value × Value) (cs : List (Value × Value)) → (In d cs → ⊥) → AllByRecursion (λ y. same_value (couple d) y ≡ false) (map couple cs)
different d [] h = tt
different d (c ∷ cs) h = (go (same_value (couple d) (couple c)) refl, different d cs (λ m. h (inr m)))
  where
    go : (b : Bool) → same_value (couple d) (couple c) ≡ b → b ≡ false
    go true e = absurd (h (inl (same_parts d c ((value_decides (couple d) (couple c)).0 e))))
    go false e = refl

decide_in : (d : Value × Value) (cs : List (Value × Value)) → In d cs ⊎ (In d cs → ⊥)
decide_in d [] = inr (λ m. m)
decide_in d (c ∷ cs) = go (same_value (couple d) (couple c)) refl (decide_in d cs)
  where
    go : (b : Bool) → same_value (couple d) (couple c) ≡ b → In d cs ⊎ (In d cs → ⊥) → In d (c ∷ cs) ⊎ (In d (c ∷ cs) → ⊥)
    go true e more = inl (inl (same_parts d c ((value_decides (couple d) (couple c)).0 e)))
    go false e (inl m) = inl (inr m)
    go false e (inr n) = inr (λ m. elim m [ inl f ↦ (let g = (value_decides (couple d) (couple c)).1 (ap couple f) in cc) | inr k ↦ n k ])

-- a path can be cut to one without repeated couples
cut : (ps : List (Value × Value)) (x : Value) (c : Value × Value) (cs : List (Value × Value)) (z : Value) → IsPath ps x (c ∷ cs) z
    → (d : Value × Value) × (rest : List (Value × Value)) × IsPath ps x (d ∷ rest) z × Once (d ∷ rest)
unfolding IsDistinct
cut ps x c [] z h = (c, [], h, (tt, tt))
cut ps x c (e ∷ cs) z h = go (cut ps c.1 e cs z h.2)
  where
    go : ((d : Value × Value) × (rest : List (Value × Value)) × IsPath ps c.1 (d ∷ rest) z × Once (d ∷ rest)) → (d : Value × Value) × (rest : List (Value × Value)) × IsPath ps x (d ∷ rest) z × Once (d ∷ rest)
    go p = elim (decide_in c (p.0 ∷ p.1)) [
      | inl m ↦ (let s = suffix ps c.1 (p.0 ∷ p.1) z c p.2 p.3 m in (c, s.0, (h.0, h.1, s.1), s.2))
      | inr n ↦ (c, p.0 ∷ p.1, (h.0, h.1, p.2), (different c (p.0 ∷ p.1) n, p.3))
    ]

listed : (x : Value) (xs : List Value) → (list_any (same_value x) xs ≡ true) ↔ In x xs
listed x [] = (λ h. cc, λ h. absurd h)
listed x (y ∷ ys) = go (same_value x y) refl (listed x ys)
  where
    go : (b : Bool) → same_value x y ≡ b → (list_any (same_value x) ys ≡ true) ↔ In x ys → ((b || list_any (same_value x) ys) ≡ true) ↔ In x (y ∷ ys)
    go true e more = (λ h. inl ((value_decides x y).0 e), λ h. refl)
    go false e more = (λ h. inr (more.0 h), λ h. elim h [ inl f ↦ (let g = (value_decides x y).1 f in cc) | inr m ↦ more.1 m ])

-- a list with no repeated value is no longer than one that has all its values
pub no_longer : (xs ys : List Value) → IsDistinct same_value xs → ((z : Value) → In z xs → In z ys) → length xs ≤ length ys
no_longer xs ys d f = length-le_from_is_member (eq_by_cmp_equiv value_total) xs ys d (λ q h. (listed q ys).1 (f q ((listed q xs).0 h)))

map_length : {X Y : Type 0} (f : X → Y) (xs : List X) → length (map f xs) ≡ length xs
map_length f [] = refl
map_length f (x ∷ xs) = ap suc (map_length f xs)

once_short : (ps cs : List (Value × Value)) → Once cs → ((d : Value × Value) → In d cs → In d ps) → length cs ≤ length ps
once_short ps cs o f =
    let h = no_longer (map couple cs) (map couple ps) o (λ z m.
    let k = (in_map couple z cs).0 m in
    subst (λ w. In w (map couple ps)) (sym k.2) ((in_couple_map ps k.0).1 (f k.0 k.1))) in
    omega (arith, h, map_length couple cs, map_length couple ps)

-- some steps, at least one
abbrev pub Reaches : List (Value × Value) → Value → Value → Type 0
Reaches ps x z = (n : ℕ) × In (x, z) (iterated ps (suc n))

ends : (ps : List (Value × Value)) (n : ℕ) (x z : Value) → In (x, z) (iterated ps (suc n)) → In z (field ps)
ends ps n x z h = let k = (iterated_next ps n x z).0 h in second_in_field ps k.0 z k.2

-- a couple that some iterate has, one up to the number of couples has
pub reached_soon : (ps : List (Value × Value)) (x z : Value) → Reaches ps x z → (n : ℕ) × (n < length ps) × In (x, z) (iterated ps (suc n))
reached_soon ps x z h =
    let k = (iterated_next ps h.0 x z).0 h.1 in
    let p = path_of ps h.0 x k.0 k.1 in
    go k.0 p.0 (path_then ps x p.0 k.0 z p.1 k.2)
  where
    finish : (d : Value × Value) (rest : List (Value × Value)) → IsPath ps x (d ∷ rest) z → Once (d ∷ rest) → (n : ℕ) × (n < length ps) × In (x, z) (iterated ps (suc n))
    finish d rest g o = (length rest, (let l = once_short ps (d ∷ rest) o (path_members ps x (d ∷ rest) z g) in omega arith), path_iterated ps x (d ∷ rest) z g (ends ps h.0 x z h.1))

    cases : (c : Value × Value) (cs : List (Value × Value)) → IsPath ps x (c ∷ cs) z → (n : ℕ) × (n < length ps) × In (x, z) (iterated ps (suc n))
    cases c cs g = let q = cut ps x c cs z g in finish q.0 q.1 q.2 q.3

    go : (y : Value) (cs : List (Value × Value)) → IsPath ps x (cs ++ (y, z) ∷ []) z → (n : ℕ) × (n < length ps) × In (x, z) (iterated ps (suc n))
    go y [] g = cases (y, z) [] g
    go y (c ∷ cs) g = cases c (cs ++ (y, z) ∷ []) g
