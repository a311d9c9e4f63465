-- The image of a value under a function, and the images of a set.
use Rattle.std.proofs.Common.{◌≡◌, ◌⊎◌, ◌↔◌, ◌<◌, ◌≤◌, ◌≢◌, ℕ, zero, suc, Bool, true, false, cond, List, [], ◌∷◌, map, length, Result, Ok, Err, arith, refl, sym, ap, ◌∙◌, subst, inl, inr}
use Rattle.std.specs.Prelude.{IfOk}
use Rattle.std.specs.List.{filter, flat_map, cons_option}
use Rattle.std.specs.Ordering.{is_eq}
use Rattle.ascending.specs.Ascending.{In}
use Rattle.b_values.specs.SameLaws.{value_decides}
use Rattle.b_values.specs.Values.{IsKept, elements, same_value, value_cmp}
use Rattle.b_values.specs.declared.values.FaultKind.TheVariants.{IllDefined}
use Rattle.b_values.specs.declared.values.Value.{Value, out-Value}
use Rattle.b_values.specs.declared.values.Value.TheOpen.{Value-F}
use Rattle.set_making.specs.declared.OpFault.{OpFault}
use Rattle.set_making.specs.Making.{Answers}
use Rattle.set_making.specs.MakingLaws.{member_kept, parts_kept}
use Rattle.set_making.specs.ListMembers.{in_map, in_filter, in_flat_map}
use Rattle.b_relations.specs.Listed.{SameMembers}
use Rattle.b_relations.specs.Parts.{begins_with, first_cmp}
use Rattle.b_relations.specs.Relations.{Relates, parts_of, couple, couples, couples_in, only, apply_row, image_members}
use Rattle.b_relations.proofs.RowLaws.{related, in_image}
use Rattle.b_relations.proofs.Searching.{group_parts, of_cond}

-- ---- the only image

-- the images of x under f
abbrev pub images_of : Value → Value → List Value
images_of f x = map (λ p. p.1) (filter (λ p. same_value p.0 x) (couples f))

pub one_image : (f x m : Value) (members group : List Value) → members ≡ elements f → group ≡ filter (begins_with x) members → group ≡ m ∷ [] → only (map (λ p. p.1) (couples_in (m ∷ []))) ≡ apply_row f x
one_image f x m members group e g h = ap (λ l. only (map (λ p. p.1) l)) (ap couples_in (sym h ∙ g ∙ ap (filter (begins_with x)) e) ∙ group_parts x (elements f))

in_images : (f x y : Value) → In y (images_of f x) ↔ Relates f x y
in_images f x y = (
  λ h. let k = (in_map (λ (p : Value × Value). p.1) y _).0 h in
      let m = (in_filter (λ (p : Value × Value). same_value p.0 x) k.0 (couples f)).0 k.1 in
      subst (λ w. Relates f x w) (sym k.2) (subst (λ w. Relates f w k.0.1) ((value_decides k.0.0 x).0 m.1) ((related f k.0.0 k.0.1).0 m.0)),
  λ h. (in_map (λ (p : Value × Value). p.1) y _).1 ((x, y), (in_filter (λ (p : Value × Value). same_value p.0 x) (x, y) (couples f)).1 ((related f x y).1 h, (value_decides x x).1 refl), refl),
)

only_is : (ys : List Value) (v : Value) → only ys ≡ Ok v → ys ≡ v ∷ []
only_is [] v e = cc
only_is (y ∷ []) v e = let same : y ≡ v = cc in ap (λ z. z ∷ []) same
only_is (y ∷ z ∷ ys) v e = cc

only_image : (f x v : Value) → apply_row f x ≡ Ok v → (y : Value) → Relates f x y ↔ (y ≡ v)
only_image f x v a y =
    let one = only_is (images_of f x) v a in (
      λ h. elim (subst (λ l. In y l) one ((in_images f x y).1 h)) [ inl e ↦ e | inr e ↦ absurd e ],
      λ e. (in_images f x y).0 (subst (λ l. In y l) (sym one) (inl e)),
    )

pub apply_image : (f x : Value) (r : Result Value OpFault) → Answers (apply_row f x) r → IfOk r (λ v. (y : Value) → Relates f x y ↔ (y ≡ v))
apply_image f x (Ok v) a = only_image f x v a
apply_image f x (Err e) a = tt

pub apply_kept : (f x : Value) (r : Result Value OpFault) → IsKept f → Answers (apply_row f x) r → IfOk r (λ v. IsKept v)
apply_kept f x (Ok v) k a = (parts_kept x v (member_kept f (couple (x, v)) k ((only_image f x v a v).1 refl))).1
apply_kept f x (Err e) k a = tt

-- ---- none or several

length_step : (x : Value) (m : Value) (y : Value-F Value) (more : List Value) (ps : List (Value × Value)) → length ps ≡ length more
    → length (cond (is_eq (first_cmp y x)) (cons_option (parts_of y) ps) ps) ≡ length (cond (is_eq (first_cmp y x)) (m ∷ more) more)
length_step x m (Value-F.Int n) more ps e = e
length_step x m (Value-F.Truth b) more ps e = e
length_step x m (Value-F.Text s) more ps e = e
length_step x m (Value-F.Elem s i) more ps e = e
length_step x m (Value-F.Pair a b) more ps e = go (is_eq (value_cmp a x))
  where
    go : (t : Bool) → length (cond t ((a, b) ∷ ps) ps) ≡ length (cond t (m ∷ more) more)
    go true = ap suc e
    go false = e
length_step x m (Value-F.Set xs) more ps e = e

-- each member of the group is a couple
group_length : (x : Value) (xs : List Value) → length (couples_in (filter (begins_with x) xs)) ≡ length (filter (begins_with x) xs)
group_length x [] = refl
group_length x (m ∷ xs) =
    ap length (of_cond (begins_with x m) couples_in (m ∷ filter (begins_with x) xs) (filter (begins_with x) xs))
    ∙ length_step x m (out-Value m) (filter (begins_with x) xs) (couples_in (filter (begins_with x) xs)) (group_length x xs)

none_only : (ps : List (Value × Value)) → (length ps < 1) ⊎ (2 ≤ length ps) → only (map (λ p. p.1) ps) ≡ Err IllDefined
none_only [] h = refl
none_only (p ∷ []) h = absurd (elim h [ inl l ↦ omega arith | inr l ↦ omega arith ])
none_only (p ∷ q ∷ ps) h = refl

pub no_image : (f x : Value) (members group : List Value) → members ≡ elements f → group ≡ filter (begins_with x) members → (length group < 1) ⊎ (2 ≤ length group) → apply_row f x ≡ Err IllDefined
no_image f x members group e g h =
    let whole : group ≡ filter (begins_with x) (elements f) = g ∙ ap (filter (begins_with x)) e in
    let same : length (filter (λ p. same_value p.0 x) (couples f)) ≡ length group =
    ap length (sym (group_parts x (elements f))) ∙ group_length x (elements f) ∙ ap length (sym whole) in
    none_only (filter (λ p. same_value p.0 x) (couples f)) (elim h [ inl l ↦ inl (omega arith) | inr l ↦ inr (omega arith) ])

-- ---- the images of a set

-- what is found for each member of the set
abbrev pub found_images : List Value → List Value → List Value
found_images relation set = flat_map (λ x. map (λ p. p.1) (couples_in (filter (begins_with x) relation))) set

in_group : (r x y : Value) → In y (map (λ p. p.1) (couples_in (filter (begins_with x) (elements r)))) ↔ Relates r x y
in_group r x y = subst (λ l. In y (map (λ p. p.1) l) ↔ Relates r x y) (sym (group_parts x (elements r))) (in_images r x y)

-- by searching for each member come the members of the row
pub images_same : (r s : Value) → SameMembers (found_images (elements r) (elements s)) (image_members r s)
images_same r s y =
    let row = in_image r s y in
    let all = in_flat_map (λ x. map (λ p. p.1) (couples_in (filter (begins_with x) (elements r)))) y (elements s) in (
      λ h. let k = all.0 h in row.1 (k.0, k.1, (in_group r k.0 y).0 k.2),
      λ h. let k = row.0 h in all.1 (k.0, k.1, (in_group r k.0 y).1 k.2),
    )

pub images_found : (r s : Value) (relation set found : List Value) → relation ≡ elements r → set ≡ elements s → found ≡ found_images relation set → SameMembers found (image_members r s)
images_found r s relation set found e f g = subst (λ l. SameMembers l (image_members r s)) (sym (rw (g, e, f) refl)) (images_same r s)

pub other_than_one : (n : ℕ) → n ≢ 1 → (n < 1) ⊎ (2 ≤ n)
other_than_one zero h = inl (omega arith)
other_than_one (suc zero) h = absurd (h refl)
other_than_one (suc (suc n)) h = inr (omega arith)
