-- The couples of two ascending lists: they ascend, which they are, and how many.
use Rattle.std.proofs.Common.{◌≡◌, ◌↔◌, ◌*◌, List, [], ◌∷◌, map, length, arith, refl, sym, ap, ◌∙◌, subst, inl, inr, length-append}
use Rattle.std.proofs.lemmas.List.{length-map}
use Rattle.std.specs.declared.cmp.Ordering.TheVariants.{Less}
use Rattle.std.specs.Ordering.{ordering_then}
use Rattle.std.specs.Cmp.{tied_itself}
use Rattle.std.specs.List.{AllByRecursion}
use Rattle.ascending.specs.Ascending.{In, IsAscending}
use Rattle.ascending.specs.Members.{all_in, all_from, in_append}
use Rattle.ascending.specs.AscendingLaws.{AllAbove, ascending_none, ascending_cons, ascending_head, ascending_tail, ascending_join}
use Rattle.b_values.specs.OrderLaws.{value_total, layers_cmp, cmp_out}
use Rattle.b_values.specs.Values.{elements, value_cmp, IsValue}
use Rattle.b_values.specs.ValueLaws.{is_couple, elements-Set}
use Rattle.b_values.specs.declared.values.Value.{Value, out-Value}
use Rattle.b_values.specs.declared.values.Value.TheOpen.{Value-F}
use Rattle.b_values.specs.declared.values.Value.TheVariants.{Pair, Set, outs-Pair}
use Rattle.b_funsets.specs.Families.{couples, sublists, IsRelation}
use Rattle.b_funsets.proofs.SublistLaws.{in_map, map_from, sublist_within, sublist_ascends, is_sublist}

-- couples are compared by their first and then their second parts
pub cmp-Pair : (a b c d : Value) → value_cmp (Pair a b) (Pair c d) ≡ ordering_then (value_cmp a c) (value_cmp b d)
cmp-Pair a b c d = cmp_out (Pair a b) (Pair c d) ∙ ap (λ l. layers_cmp l (out-Value (Pair c d))) (outs-Pair a b) ∙ ap (layers_cmp (Value-F.Pair a b)) (outs-Pair c d)

pub same_left : (x y z : Value) → value_cmp y z ≡ Less → value_cmp (Pair x y) (Pair x z) ≡ Less
same_left x y z e = cmp-Pair x y x z ∙ ap (λ t. ordering_then t (value_cmp y z)) (tied_itself value_total x) ∙ e

pub lower_left : (x y z w : Value) → value_cmp x z ≡ Less → value_cmp (Pair x y) (Pair z w) ≡ Less
lower_left x y z w e = cmp-Pair x y z w ∙ ap (λ t. ordering_then t (value_cmp y w)) e

all_same_left : (x y : Value) (t : List Value) → AllAbove value_cmp y t → AllAbove value_cmp (Pair x y) (map (λ z. Pair x z) t)
all_same_left x y [] h = tt
all_same_left x y (z ∷ t) h = (same_left x y z h.0, all_same_left x y t h.1)

pub row_ascends : (x : Value) (t : List Value) → IsAscending value_cmp t → IsAscending value_cmp (map (λ y. Pair x y) t)
row_ascends x [] a = ascending_none value_cmp
row_ascends x (y ∷ t) a = ascending_cons value_cmp (Pair x y) (map (λ z. Pair x z) t) (all_same_left x y t (ascending_head value_cmp y t a)) (row_ascends x t (ascending_tail value_cmp y t a))

-- what a couple is of
pub record IsOf (s t : List Value) (z : Value) : Type 0 where
  pub first : Value
  pub second : Value
  pub parts : z ≡ Pair first second
  pub left : In first s
  pub right : In second t

pub couple_from : (s t : List Value) (z : Value) → In z (couples s t) → IsOf s t z
couple_from [] t z h = absurd h
couple_from (x ∷ s) t z h = elim ((in_append z (map (λ y. Pair x y) t) (couples s t)).0 h) [
  | inl k ↦ (let c = map_from (λ y. Pair x y) z t k in record { first = x; second = c.source; parts = c.is; left = inl refl; right = c.member })
  | inr k ↦ (let c = couple_from s t z k in record { first = c.first; second = c.second; parts = c.parts; left = inr c.left; right = c.right })
]

pub in_couples : (s t : List Value) (x y : Value) → In x s → In y t → In (Pair x y) (couples s t)
in_couples [] t x y h k = absurd h
in_couples (w ∷ s) t x y (inl e) k = (in_append (Pair x y) (map (λ z. Pair w z) t) (couples s t)).1 (inl (subst (λ v. In (Pair x y) (map (λ z. Pair v z) t)) e (in_map (λ z. Pair x z) y t k)))
in_couples (w ∷ s) t x y (inr h) k = (in_append (Pair x y) (map (λ z. Pair w z) t) (couples s t)).1 (inr (in_couples s t x y h k))

pub couples_ascend : (s t : List Value) → IsAscending value_cmp s → IsAscending value_cmp t → IsAscending value_cmp (couples s t)
couples_ascend [] t a b = ascending_none value_cmp
couples_ascend (x ∷ s) t a b = ascending_join value_cmp (map (λ y. Pair x y) t) (couples s t) (row_ascends x t b) (couples_ascend s t (ascending_tail value_cmp x s a) b)
    (λ z h. let c = map_from (λ y. Pair x y) z t h in
    all_from (λ w. value_cmp z w ≡ Less) (couples s t) (λ w k. let d = couple_from s t w k in
    subst (λ v. value_cmp v w ≡ Less) (sym c.is) (subst (λ v. value_cmp (Pair x c.source) v ≡ Less) (sym d.parts)
    (lower_left x c.source d.first d.second (all_in (λ v. value_cmp x v ≡ Less) s (ascending_head value_cmp x s a) d.first d.left)))))

pub couples_are_values : (s t : List Value) → AllByRecursion IsValue s → AllByRecursion IsValue t → AllByRecursion IsValue (couples s t)
couples_are_values s t k l = all_from IsValue (couples s t) (λ z h. let c = couple_from s t z h in
    subst IsValue (sym c.parts) (is_couple c.first c.second (all_in IsValue s k c.first c.left) (all_in IsValue t l c.second c.right)))

pub length-couples : (s t : List Value) → length (couples s t) ≡ length s * length t
length-couples [] t = omega arith
length-couples (x ∷ s) t = omega (arith, length-append (map (λ y. Pair x y) t) (couples s t), length-map t (λ y. Pair x y), length-couples s t)

-- ---- the members of a set of relations

module _ (s t : Value) (a : IsAscending value_cmp (elements s)) (b : IsAscending value_cmp (elements t)) where
  pub relation_of_sublist : (r : List Value) → In r (sublists (couples (elements s) (elements t))) → IsRelation s t (Set r)
  relation_of_sublist r h = record {
    is_set = ap Set (sym (elements-Set r));
    ascends = subst (IsAscending value_cmp) (sym (elements-Set r)) (sublist_ascends value_cmp (couples (elements s) (elements t)) r (couples_ascend (elements s) (elements t) a b) h);
    within = λ z m. (let c = couple_from (elements s) (elements t) z (sublist_within (couples (elements s) (elements t)) r h z (subst (In z) (elements-Set r) m)) in
        record { first = c.first; second = c.second; parts = c.parts; left = c.left; right = c.right });
  }

  pub sublist_of_relation : (v : Value) → IsRelation s t v → In (elements v) (sublists (couples (elements s) (elements t)))
  sublist_of_relation v h = is_sublist value_cmp value_total (couples (elements s) (elements t)) (elements v) (couples_ascend (elements s) (elements t) a b) h.ascends
      (λ z m. let c = h.within z m in subst (λ w. In w (couples (elements s) (elements t))) (sym c.parts) (in_couples (elements s) (elements t) c.first c.second c.left c.right))

  pub relation_members : (z : Value) → In z (map Set (sublists (couples (elements s) (elements t)))) ↔ IsRelation s t z
  relation_members z = (
    λ h. (let c = map_from Set z (sublists (couples (elements s) (elements t))) h in subst (IsRelation s t) (sym c.is) (relation_of_sublist c.source c.member)),
    λ h. subst (λ w. In w (map Set (sublists (couples (elements s) (elements t))))) (sym h.is_set) (in_map Set (elements z) (sublists (couples (elements s) (elements t))) (sublist_of_relation z h)),
  )
