-- How many elements are no images yet, and which rows can be completed.
use Rattle.std.proofs.lemmas.Bool.{leb-true, le-leb, eqb-true, eq-eqb}
use Rattle.std.proofs.Common.{◌≡◌, ◌⊎◌, ◌↔◌, ℕ, ◌+◌, ◌≤◌, ◌<◌, Bool, true, false, List, [], ◌∷◌, length, arith, refl, sym, ap, ◌∙◌, subst, inl, inr}
use Rattle.std.specs.Prelude.{◌&&◌, ◌||◌, not, nat_le, ◌==◌, reverse, filter, if◌then◌else◌}
use Rattle.std.specs.declared.cmp.Ordering.TheVariants.{Less}
use Rattle.ascending.specs.Ascending.{In, IsAscending}
use Rattle.ascending.specs.Members.{all_in}
use Rattle.ascending.specs.AscendingLaws.{ascending_head, ascending_tail, not_below_itself}
use Rattle.b_values.specs.OrderLaws.{value_total}
use Rattle.b_values.specs.SameLaws.{value_decides}
use Rattle.b_values.specs.Values.{same_value, value_cmp}
use Rattle.b_values.specs.declared.values.Value.{Value}
use Rattle.b_funsets.specs.declared.levels.Arrow.{Arrow}
use Rattle.b_funsets.specs.Arrows.{second}
use Rattle.b_funsets.specs.Levels.{hits, counts, viable, left_after}
use Rattle.b_funsets.proofs.ArrowTests.{and_parts, both_true, implies, implied, same_truth, not_true, either_way, Found, any_true, true_any, in_filter, filter_same, in_reverse}

-- the elements of t that are no images
abbrev pub free : List Value → List Value → List Value
free t r = filter (λ y. not (hits r y)) t

-- how many they are, where the arrow needs it
abbrev pub left_of : Arrow → List Value → List Value → ℕ
left_of a t r = if counts a then length (free t r) else 0

pub hits_reverse : (q : List Value) (y : Value) → hits (reverse q) y ≡ hits q y
hits_reverse q y = same_truth (hits (reverse q) y) (hits q y)
    (λ e. let f = any_true (λ p. same_value (second p) y) (reverse q) e in true_any (λ p. same_value (second p) y) q f.item ((in_reverse f.item q).0 f.member) f.passes)
    (λ e. let f = any_true (λ p. same_value (second p) y) q e in true_any (λ p. same_value (second p) y) (reverse q) f.item ((in_reverse f.item q).1 f.member) f.passes)

not_same : (x y : Value) → (x ≡ y → ⊥) → same_value x y ≡ false
not_same x y f = elim (either_way (same_value x y)) [ inl e ↦ absurd (f ((value_decides x y).0 e)) | inr e ↦ e ]

module _ (p : Value → Bool) (y : Value) where
  without : Value → Bool
  without z = not (same_value y z || p z)

  others : (z : Value) → (y ≡ z → ⊥) → not (same_value y z || p z) ≡ not (p z)
  others z f = ap (λ b. not (b || p z)) (not_same y z f)

  kept_length : Bool → List Value → ℕ
  kept_length b zs = length (if b then y ∷ zs else zs)

  -- one that was free is so no more
  one_less : (t : List Value) → IsAscending value_cmp t → In y t → p y ≡ false → length (filter (λ z. not (same_value y z || p z)) t) + 1 ≡ length (filter (λ z. not (p z)) t)
  one_less [] a h e = absurd h
  one_less (z ∷ t) a (inl g) e =
      first_goes (not (same_value y z || p z)) (not (p z))
      (ap (λ b. not (b || p z)) ((value_decides y z).1 g))
      (ap not (ap p (sym g) ∙ e))
      (filter_same (λ w. not (same_value y w || p w)) (λ w. not (p w)) t (λ w m. others w (λ k. not_below_itself value_cmp value_total z (subst (λ v. value_cmp z v ≡ Less) (sym k ∙ g) (all_in (λ v. value_cmp z v ≡ Less) t (ascending_head value_cmp z t a) w m)))))
    where
      first_goes : (b c : Bool) → b ≡ false → c ≡ true → filter (λ w. not (same_value y w || p w)) t ≡ filter (λ w. not (p w)) t
          → length (if b then z ∷ filter (λ w. not (same_value y w || p w)) t else filter (λ w. not (same_value y w || p w)) t) + 1 ≡ length (if c then z ∷ filter (λ w. not (p w)) t else filter (λ w. not (p w)) t)
      first_goes true c e f g = cc
      first_goes false true e f g = let l = ap length g in omega arith
      first_goes false false e f g = cc
  one_less (z ∷ t) a (inr h) e =
      first_stays (not (same_value y z || p z)) (not (p z))
      (others z (λ k. not_below_itself value_cmp value_total z (subst (λ v. value_cmp z v ≡ Less) k (all_in (λ v. value_cmp z v ≡ Less) t (ascending_head value_cmp z t a) y h))))
      (one_less t (ascending_tail value_cmp z t a) h e)
    where
      first_stays : (b c : Bool) → b ≡ c → length (filter (λ w. not (same_value y w || p w)) t) + 1 ≡ length (filter (λ w. not (p w)) t)
          → length (if b then z ∷ filter (λ w. not (same_value y w || p w)) t else filter (λ w. not (same_value y w || p w)) t) + 1 ≡ length (if c then z ∷ filter (λ w. not (p w)) t else filter (λ w. not (p w)) t)
      first_stays true true f g = omega arith
      first_stays true false f g = cc
      first_stays false true f g = cc
      first_stays false false f g = g

  -- an image again changes nothing
  none_less : (t : List Value) → p y ≡ true → filter (λ z. not (same_value y z || p z)) t ≡ filter (λ z. not (p z)) t
  none_less t e = filter_same (λ z. not (same_value y z || p z)) (λ z. not (p z)) t (λ z m. go z (same_value y z) refl)
    where
      go : (z : Value) (b : Bool) → same_value y z ≡ b → not (b || p z) ≡ not (p z)
      go z true f = ap not (sym (ap p (sym ((value_decides y z).0 f)) ∙ e))
      go z false f = refl

pub free_fresh : (t r : List Value) (c : Value) → IsAscending value_cmp t → In (second c) t → hits r (second c) ≡ false → length (free t (c ∷ r)) + 1 ≡ length (free t r)
free_fresh t r c a h e = one_less (hits r) (second c) t a h e

pub free_again : (t r : List Value) (c : Value) → hits r (second c) ≡ true → length (free t (c ∷ r)) ≡ length (free t r)
free_again t r c e = ap length (none_less (hits r) (second c) t e)

-- how many are left after another couple
pub left_next : (a : Arrow) (t r : List Value) (c : Value) → IsAscending value_cmp t → In (second c) t → left_after (left_of a t r) (hits r (second c)) ≡ left_of a t (c ∷ r)
left_next a t r c s h = go (counts a) (hits r (second c)) refl
  where
    go : (n b : Bool) → hits r (second c) ≡ b → left_after (if n then length (free t r) else 0) b ≡ (if n then length (free t (c ∷ r)) else 0)
    go true true e = sym (free_again t r c e)
    go true false e = let l = free_fresh t r c s h e in omega arith
    go false true e = refl
    go false false e = refl

-- where some are left, one of them is free
pub record IsFree (t r : List Value) : Type 0 where
  pub item : Value
  pub member : In item t
  pub fresh : hits r item ≡ false

first_passing : (q : Value → Bool) (t : List Value) → 0 < length (filter q t) → Found q t
first_passing q [] h = absurd (omega arith)
first_passing q (y ∷ t) h = go (first_passing q t) (q y) refl h
  where
    go : (0 < length (filter q t) → Found q t) → (b : Bool) → q y ≡ b → 0 < length (if b then y ∷ filter q t else filter q t) → Found q (y ∷ t)
    go more true e k = record { item = y; member = inl refl; passes = e }
    go more false e k = let f = more k in record { item = f.item; member = inr f.member; passes = f.passes }

pub free_one : (a : Arrow) (t r : List Value) → 0 < left_of a t r → IsFree t r
free_one a t r h = go (counts a) h
  where
    go : (n : Bool) → 0 < (if n then length (free t r) else 0) → IsFree t r
    go true k = let f = first_passing (λ y. not (hits r y)) t k in record { item = f.item; member = f.member; fresh = not_true (hits r f.item) f.passes }
    go false k = absurd (omega arith)

-- where all count, none is left where each is an image
pub none_left : (t r : List Value) → length (free t r) ≡ 0 → (y : Value) → In y t → hits r y ≡ true
none_left t r e y h = elim (either_way (hits r y)) [
  | inl f ↦ f
  | inr f ↦ absurd (nothing (filter (λ z. not (hits r z)) t) e ((in_filter (λ z. not (hits r z)) y t).1 (h, ap not f)))
]
  where
    nothing : (zs : List Value) → length zs ≡ 0 → In y zs → ⊥
    nothing [] e h = h
    nothing (z ∷ zs) e h = omega arith

-- ---- rows that can be completed

-- what the test of a row says
pub record IsReady (a : Arrow) (k left : ℕ) (some : Bool) : Type 0 where
  pub hit : a.onto ≡ true → left ≤ k
  pub enough : a.total ≡ true → a.one_to_one ≡ true → k ≤ left
  pub any : a.total ≡ true → (k ≡ 0) ⊎ (some ≡ true)

pub ready_means : (a : Arrow) (k left : ℕ) (some : Bool) → (viable a k left some ≡ true) ↔ IsReady a k left some
ready_means a k left some = (ready, viable_from)
  where
    either_true : (b c d : Bool) → (not b || c || d) ≡ true → b ≡ true → (c ≡ true) ⊎ (d ≡ true)
    either_true true true d e f = inl refl
    either_true true false d e f = inr e
    either_true false c d e f = absurd cc

    either_from : (b c d : Bool) → (b ≡ true → (c ≡ true) ⊎ (d ≡ true)) → (not b || c || d) ≡ true
    either_from true true d f = refl
    either_from true false d f = elim (f refl) [ inl g ↦ absurd cc | inr g ↦ g ]
    either_from false c d f = refl

    ready : viable a k left some ≡ true → IsReady a k left some
    ready e =
        let p = and_parts _ _ e in
        let q = and_parts _ _ p.0 in
        record {
          hit = λ o. leb-true left k (implies a.onto (nat_le left k) q.0 o);
          enough = λ u v. leb-true k left (implies (a.total && a.one_to_one) (nat_le k left) q.1 (both_true a.total a.one_to_one u v));
          any = λ u. elim (either_true a.total (k == 0) some p.1 u) [ inl f ↦ inl (eqb-true k 0 f) | inr f ↦ inr f ];
        }

    viable_from : IsReady a k left some → viable a k left some ≡ true
    viable_from h = both_true _ _
        (both_true _ _
        (implied a.onto (nat_le left k) (λ o. le-leb left k (h.hit o)))
        (implied (a.total && a.one_to_one) (nat_le k left) (λ o. let p = and_parts a.total a.one_to_one o in le-leb k left (h.enough p.0 p.1))))
        (either_from a.total (k == 0) some (λ o. elim (h.any o) [ inl f ↦ inl (eq-eqb k 0 f) | inr f ↦ inr f ]))
