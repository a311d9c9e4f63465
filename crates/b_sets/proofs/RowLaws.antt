-- The laws of the rows of least and greatest members, unions, intersections and differences.
use Rattle.std.proofs.Common.{◌≡◌, ◌⊎◌, ◌↔◌, ◌≤◌, ◌-◌, Bool, true, false, ◌&&◌, not, List, [], ◌∷◌, ◌++◌, length, Option, Some, None, Result, Ok, Err, arith, refl, sym, ap, subst, inl, inr, take, drop, get_or}
use Rattle.std.proofs.lemmas.List.{take_all}
use Rattle.std.specs.Prelude.{filter, slice_get, IfOk, IsTrue}
use Rattle.std.specs.Option.{ok_or}
use Rattle.std.specs.List.{AllByRecursion, flat_map}
use Rattle.std.specs.declared.cmp.Ordering.TheVariants.{Less}
use Rattle.ascending.specs.Ascending.{In, IsAscending, set_of}
use Rattle.ascending.specs.Members.{all_in, all_append, in_append}
use Rattle.ascending.specs.AscendingLaws.{ascending_head, ascending_tail, not_below_itself}
use Rattle.b_values.specs.OrderLaws.{value_total}
use Rattle.b_values.specs.ValueLaws.{elements_ascend, elements_are_values}
use Rattle.b_values.specs.Values.{value_cmp, elements, IsValue, IsKept}
use Rattle.b_values.specs.declared.values.FaultKind.{FaultKind}
use Rattle.b_values.specs.declared.values.FaultKind.TheVariants.{IllDefined}
use Rattle.b_values.specs.declared.values.Value.{Value}
use Rattle.set_making.specs.declared.OpFault.{OpFault}
use Rattle.set_making.specs.Making.{set_with, Answers, is_among}
use Rattle.set_making.specs.MakingLaws.{answers_law, answers_kept, gathered_all, is_among_finds, member_kept, set_with_same}
use Rattle.set_making.specs.ListMembers.{in_filter, in_flat_map, all_filter, all_flat_map}
use Rattle.b_sets.specs.Rows.{min_row, max_row, big_union_row, in_each, common_row, big_inter_row, union_row, intersect_row, difference_row}
use Rattle.b_sets.specs.Members.{IsLeast, IsGreatest}

-- ---- least and greatest

first_is_least : (xs : List Value) (v : Value) → IsAscending value_cmp xs → slice_get xs 0 ≡ Some v → IsLeast v xs
first_is_least [] v a e = absurd (cc)
first_is_least (x ∷ xs) v a e = let same : x ≡ v = cc in subst (λ w. IsLeast w (x ∷ xs)) same (record {
  member = inl refl;
  bound = λ z h l. elim h [
    | inl f ↦ not_below_itself value_cmp value_total x (subst (λ w. value_cmp w x ≡ Less) f l)
    | inr m ↦ not_below_itself value_cmp value_total x (value_total.trans x z x (all_in (λ w. value_cmp x w ≡ Less) xs (ascending_head value_cmp x xs a) z m) l)
  ];
})

last_is_greatest : (x : Value) (xs : List Value) (v : Value) → IsAscending value_cmp (x ∷ xs) → slice_get (x ∷ xs) (length xs) ≡ Some v → IsGreatest v (x ∷ xs)
last_is_greatest x [] v a e = let same : x ≡ v = cc in subst (λ w. IsGreatest w (x ∷ [])) same (record {
  member = inl refl;
  bound = λ z h l. elim h [ inl f ↦ not_below_itself value_cmp value_total x (subst (λ w. value_cmp x w ≡ Less) f l) | inr m ↦ absurd m ];
})
last_is_greatest x (y ∷ ys) v a e =
    let rest = last_is_greatest y ys v (ascending_tail value_cmp x (y ∷ ys) a) e in
    let above : value_cmp x v ≡ Less = all_in (λ w. value_cmp x w ≡ Less) (y ∷ ys) (ascending_head value_cmp x (y ∷ ys) a) v rest.member in
    record {
      member = inr rest.member;
      bound = λ z h l. elim h [
        | inl f ↦ not_below_itself value_cmp value_total x (value_total.trans x v x above (subst (λ w. value_cmp v w ≡ Less) f l))
        | inr m ↦ rest.bound z m l
      ];
    }

ends_greatest : (xs : List Value) (v : Value) → IsAscending value_cmp xs → slice_get xs (length xs - 1) ≡ Some v → IsGreatest v xs
ends_greatest [] v a e = absurd (cc)
ends_greatest (x ∷ xs) v a e =
    let n : length (x ∷ xs) - 1 ≡ length xs = omega arith in
    last_is_greatest x xs v a (subst (λ k. slice_get (x ∷ xs) k ≡ Some v) n e)

given : (o : Option Value) (v : Value) → ◌≡◌ {A = Result Value FaultKind} (ok_or o IllDefined) (Ok v) → o ≡ Some v
given None v e = absurd (cc)
given (Some x) v e = cc

pub min_law : (s : Value) (r : Result Value OpFault) → IsKept s → Answers (min_row s) r → IfOk r (λ v. IsLeast v (elements s))
min_law s (Ok v) k a = first_is_least (elements s) v (elements_ascend s k.value) (given (slice_get (elements s) 0) v a)
min_law s (Err e) k a = tt

pub max_law : (s : Value) (r : Result Value OpFault) → IsKept s → Answers (max_row s) r → IfOk r (λ v. IsGreatest v (elements s))
max_law s (Ok v) k a = ends_greatest (elements s) v (elements_ascend s k.value) (given (slice_get (elements s) (length (elements s) - 1)) v a)
max_law s (Err e) k a = tt

pub min_kept : (s : Value) (r : Result Value OpFault) → IsKept s → Answers (min_row s) r → IfOk r (λ v. IsKept v)
min_kept s (Ok v) k a = let m = min_law s (Ok v) k a in member_kept s v k m.member
min_kept s (Err e) k a = tt

pub max_kept : (s : Value) (r : Result Value OpFault) → IsKept s → Answers (max_row s) r → IfOk r (λ v. IsKept v)
max_kept s (Ok v) k a = let m = max_law s (Ok v) k a in member_kept s v k m.member
max_kept s (Err e) k a = tt

-- ---- of two sets

-- what a merge gave answers the union
pub merged_answers : (xs ys items : List Value) (r : Result Value OpFault) → items ≡ set_of value_cmp (xs ++ ys) → Answers (set_with items) r → Answers (set_with (xs ++ ys)) r
merged_answers xs ys items r made a = gathered_all items (xs ++ ys) r made a

pub union_law : (s t : Value) (r : Result Value OpFault) → Answers (union_row s t) r → IfOk r (λ v. (x : Value) → In x (elements v) ↔ (In x (elements s) ⊎ In x (elements t)))
union_law s t r a = answers_law (λ x. In x (elements s) ⊎ In x (elements t)) (elements s ++ elements t) r (λ x. in_append x (elements s) (elements t)) a

pub union_kept : (s t : Value) (r : Result Value OpFault) → IsKept s → IsKept t → Answers (union_row s t) r → IfOk r (λ v. IsKept v)
union_kept s t r k l a = answers_kept (elements s ++ elements t) r (all_append IsValue (elements s) (elements t) (elements_are_values s k.value) (elements_are_values t l.value)) a

pub intersect_law : (s t : Value) (r : Result Value OpFault) → Answers (intersect_row s t) r → IfOk r (λ v. (x : Value) → In x (elements v) ↔ (In x (elements s) × In x (elements t)))
intersect_law s t r a = answers_law (λ x. In x (elements s) × In x (elements t)) (filter (λ x. is_among (elements t) x) (elements s)) r (λ x. (
  λ h. let p = (in_filter (λ y. is_among (elements t) y) x (elements s)).0 h in (p.0, (is_among_finds (elements t) x).0 p.1),
  λ h. (in_filter (λ y. is_among (elements t) y) x (elements s)).1 (h.0, (is_among_finds (elements t) x).1 h.1),
)) a

pub intersect_kept : (s t : Value) (r : Result Value OpFault) → IsKept s → Answers (intersect_row s t) r → IfOk r (λ v. IsKept v)
intersect_kept s t r k a = answers_kept (filter (λ x. is_among (elements t) x) (elements s)) r (all_filter IsValue (λ x. is_among (elements t) x) (elements s) (elements_are_values s k.value)) a

-- an intersection may be taken from either side
pub intersect_turned : (xs ys : List Value) → set_with (filter (λ x. is_among xs x) ys) ≡ set_with (filter (λ x. is_among ys x) xs)
intersect_turned xs ys = set_with_same (filter (λ x. is_among xs x) ys) (filter (λ x. is_among ys x) xs) (λ z. (turn xs ys z, turn ys xs z))
  where
    turn : (us vs : List Value) (z : Value) → In z (filter (λ x. is_among us x) vs) → In z (filter (λ x. is_among vs x) us)
    turn us vs z h =
        let p = (in_filter (λ x. is_among us x) z vs).0 h in
        (in_filter (λ x. is_among vs x) z us).1 ((is_among_finds us z).0 p.1, (is_among_finds vs z).1 p.0)

not_true : (b : Bool) → IsTrue (not b) ↔ (IsTrue b → ⊥)
not_true true = (λ h. absurd (cc), λ h. absurd (h refl))
not_true false = (λ h k. absurd (cc), λ h. refl)

pub difference_law : (s t : Value) (r : Result Value OpFault) → Answers (difference_row s t) r → IfOk r (λ v. (x : Value) → In x (elements v) ↔ (In x (elements s) × (In x (elements t) → ⊥)))
difference_law s t r a = answers_law (λ x. In x (elements s) × (In x (elements t) → ⊥)) (filter (λ x. not (is_among (elements t) x)) (elements s)) r (λ x. (
  λ h. let p = (in_filter (λ y. not (is_among (elements t) y)) x (elements s)).0 h in (p.0, λ m. (not_true (is_among (elements t) x)).0 p.1 ((is_among_finds (elements t) x).1 m)),
  λ h. (in_filter (λ y. not (is_among (elements t) y)) x (elements s)).1 (h.0, (not_true (is_among (elements t) x)).1 (λ m. h.1 ((is_among_finds (elements t) x).0 m))),
)) a

pub difference_kept : (s t : Value) (r : Result Value OpFault) → IsKept s → Answers (difference_row s t) r → IfOk r (λ v. IsKept v)
difference_kept s t r k a = answers_kept (filter (λ x. not (is_among (elements t) x)) (elements s)) r (all_filter IsValue (λ x. not (is_among (elements t) x)) (elements s) (elements_are_values s k.value)) a

-- ---- of a set of sets

pub big_union_law : (u : Value) (r : Result Value OpFault) → Answers (big_union_row u) r → IfOk r (λ v. (x : Value) → In x (elements v) ↔ ((s : Value) × In s (elements u) × In x (elements s)))
big_union_law u r a = answers_law (λ x. (s : Value) × In s (elements u) × In x (elements s)) (flat_map elements (elements u)) r (λ x. in_flat_map elements x (elements u)) a

pub big_union_kept : (u : Value) (r : Result Value OpFault) → IsKept u → Answers (big_union_row u) r → IfOk r (λ v. IsKept v)
big_union_kept u r k a = answers_kept (flat_map elements (elements u)) r
    (all_flat_map IsValue elements (elements u) (λ s m. elements_are_values s (all_in IsValue (elements u) (elements_are_values u k.value) s m))) a

both_true : (p q : Bool) → IsTrue (p && q) ↔ (IsTrue p × IsTrue q)
both_true true true = (λ h. (refl, refl), λ h. refl)
both_true true false = (λ h. absurd (cc), λ h. absurd (let k = h.1 in cc))
both_true false q = (λ h. absurd (cc), λ h. absurd (let k = h.0 in cc))

pub in_each_finds : (us : List Value) (x : Value) → IsTrue (in_each us x) ↔ ((u : Value) → In u us → In x (elements u))
in_each_finds [] x = (λ h u m. absurd m, λ h. refl)
in_each_finds (s ∷ us) x = (
  λ h u m. let p = (both_true (is_among (elements s) x) (in_each us x)).0 h in elim m [
    | inl e ↦ subst (λ w. In x (elements w)) (sym e) ((is_among_finds (elements s) x).0 p.0)
    | inr n ↦ (in_each_finds us x).0 p.1 u n
  ],
  λ h. (both_true (is_among (elements s) x) (in_each us x)).1 ((is_among_finds (elements s) x).1 (h s (inl refl)), (in_each_finds us x).1 (λ u m. h u (inr m))),
)

common_law : (us : List Value) (r : Result Value OpFault) → Answers (common_row us) r → IfOk r (λ v. (x : Value) → In x (elements v) ↔ ((u : Value) → In u us → In x (elements u)))
common_law [] (Ok v) a = absurd (cc)
common_law [] (Err e) a = tt
common_law (s ∷ us) r a = answers_law (λ x. (u : Value) → In u (s ∷ us) → In x (elements u)) (filter (in_each us) (elements s)) r (λ x. (
  λ h u m. let p = (in_filter (in_each us) x (elements s)).0 h in elim m [
    | inl e ↦ subst (λ w. In x (elements w)) (sym e) p.0
    | inr n ↦ (in_each_finds us x).0 p.1 u n
  ],
  λ h. (in_filter (in_each us) x (elements s)).1 (h s (inl refl), (in_each_finds us x).1 (λ u m. h u (inr m))),
)) a

common_kept : (us : List Value) (r : Result Value OpFault) → AllByRecursion IsValue us → Answers (common_row us) r → IfOk r (λ v. IsKept v)
common_kept [] (Ok v) k a = absurd (cc)
common_kept [] (Err e) k a = tt
common_kept (s ∷ us) r k a = answers_kept (filter (in_each us) (elements s)) r (all_filter IsValue (in_each us) (elements s) (elements_are_values s k.0)) a

pub big_inter_law : (u : Value) (r : Result Value OpFault) → Answers (big_inter_row u) r → IfOk r (λ v. (x : Value) → In x (elements v) ↔ ((s : Value) → In s (elements u) → In x (elements s)))
big_inter_law u r a = common_law (elements u) r a

pub big_inter_kept : (u : Value) (r : Result Value OpFault) → IsKept u → Answers (big_inter_row u) r → IfOk r (λ v. IsKept v)
big_inter_kept u r k a = common_kept (elements u) r (elements_are_values u k.value) a

-- the first of a list and what comes after it
pub cut_first : (us : List Value) (u : Value) → 1 ≤ length us → u ≡ get_or us 0 u → us ≡ u ∷ take (length us - 1) (drop 1 us)
cut_first [] u h e = absurd (omega arith)
cut_first (x ∷ us) u h e =
    let n : length (x ∷ us) - 1 ≡ length us = omega arith in
    rw (n, take_all (length us) us (omega arith)) (ap (λ w. w ∷ us) (sym e))
