-- The laws of the set with given members, of kept values, and of what answers a row.
use borrow.Author.Tests.{leb-true, leb-false}
use Rattle.std.proofs.Common.{◌≡◌, ◌⊎◌, ◌↔◌, ◌≤◌, ◌<◌, Bool, true, false, ◌||◌, List, [], ◌∷◌, ◌++◌, Result, Ok, Err, arith, refl, sym, ap, ◌∙◌, subst, inl, inr, map, sum, ℕ, ◌+◌}
use Rattle.std.specs.Prelude.{nat_le, if◌then◌else◌, IfOk, IsTrue}
use Rattle.std.specs.List.{AllByRecursion}
use Rattle.ascending.specs.Ascending.{In, IsAscending, insert, set_of}
use Rattle.ascending.specs.Members.{all_in, all_from, in_push}
use Rattle.ascending.specs.AscendingLaws.{in_set_of, set_of_ascends, set_of_itself, set_of_same}
use Rattle.b_values.specs.OrderLaws.{value_total, value_same}
use Rattle.b_values.specs.SameLaws.{value_decides}
use Rattle.b_values.specs.SizeLaws.{count-Set, count-Pair, count-elements}
use Rattle.b_values.specs.ValueLaws.{elements-Set, elements_ascend, elements_are_values, set_of_values, limited_kept, couple_parts}
use Rattle.b_values.specs.Values.{limited, elements, node_count, value_cmp, same_value, IsValue, IsKept}
use Rattle.b_values.specs.declared.values.FaultKind.{FaultKind}
use Rattle.b_values.specs.declared.values.FaultKind.TheVariants.{TooLarge}
use Rattle.b_values.specs.declared.values.Value.{Value}
use Rattle.b_values.specs.declared.values.Value.TheVariants.{Set, Pair}
use Rattle.set_making.specs.declared.OpFault.{OpFault}
use Rattle.set_making.specs.declared.OpFault.TheVariants.{Fault, Memory}
use Rattle.set_making.specs.Making.{set_with, Answers, FaultOf, is_among}
use Rattle.set_making.specs.Sums.{map_member_sum, map_append_sum, map_cons_sum, part_sum}

-- ---- the limit

abbrev Limited : Value → Type 0
Limited v = ((node_count v ≤ 1000000) × (limited v ≡ Ok v)) ⊎ ((1000000 < node_count v) × (limited v ≡ Err TooLarge))

limit_cases : (v : Value) → Limited v
limit_cases v = go (nat_le (node_count v) 1000000) refl
  where
    go : (b : Bool) → nat_le (node_count v) 1000000 ≡ b → ((node_count v ≤ 1000000) × ((if b then Ok v else Err TooLarge) ≡ Ok v)) ⊎ ((1000000 < node_count v) × ((if b then Ok v else Err TooLarge) ≡ Err TooLarge))
    go true e = inl (leb-true _ _ e, refl)
    go false e = inr (leb-false _ _ e, refl)

-- what fits is answered
pub limited_fits : (v : Value) → node_count v ≤ 1000000 → limited v ≡ Ok v
limited_fits v h = elim (limit_cases v) [ inl p ↦ p.1 | inr p ↦ absurd (let l = p.0 in omega arith) ]

-- what doesn't fit is refused
pub limited_refuses : (v : Value) → 1000000 < node_count v → limited v ≡ Err TooLarge
limited_refuses v h = elim (limit_cases v) [ inl p ↦ absurd (let l = p.0 in omega arith) | inr p ↦ p.1 ]

-- what is refused is too large
pub refused_is_large : (v : Value) → limited v ≡ Err TooLarge → 1000000 < node_count v
refused_is_large v e = elim (limit_cases v) [ inl p ↦ absurd (let l = p.1 in cc) | inr p ↦ p.0 ]

-- the only fault is TooLarge
pub limited_fault : (v : Value) (k : FaultKind) → limited v ≡ Err k → k ≡ TooLarge
limited_fault v k e = elim (limit_cases v) [ inl p ↦ absurd (let l = p.1 in cc) | inr p ↦ (let l = p.1 in cc) ]

-- an answer is the value itself
pub limited_same : (v w : Value) → limited v ≡ Ok w → v ≡ w
limited_same v w e = elim (limit_cases v) [ inl p ↦ (let l = p.1 in cc) | inr p ↦ absurd (let l = p.1 in cc) ]

-- ---- sets by their members

-- an ascending list is the list of the members of its set
pub set_in_order_with : (xs : List Value) → IsAscending value_cmp xs → set_with xs ≡ limited (Set xs)
set_in_order_with xs a = ap (λ ys. limited (Set ys)) (set_of_itself value_cmp value_total value_same xs a)

-- the members of the set are those of the list
pub set_with_members : (xs : List Value) (v : Value) → set_with xs ≡ Ok v → (z : Value) → In z (elements v) ↔ In z xs
set_with_members xs v e z =
    let same : elements v ≡ set_of value_cmp xs = ap elements (sym (limited_same _ _ e)) ∙ elements-Set (set_of value_cmp xs) in
    subst (λ ys. In z ys ↔ In z xs) (sym same) (in_set_of value_cmp value_total value_same z xs)

-- the set of values is kept
pub set_with_kept : (xs : List Value) (v : Value) → AllByRecursion IsValue xs → set_with xs ≡ Ok v → IsKept v
set_with_kept xs v k e = limited_kept (Set (set_of value_cmp xs)) v (set_of_values xs k) e

-- lists with the same members give one answer
pub set_with_same : (xs ys : List Value) → ((z : Value) → In z xs ↔ In z ys) → set_with xs ≡ set_with ys
set_with_same xs ys f = ap (λ zs. limited (Set zs)) (set_of_same value_cmp value_total value_same xs ys f)

-- with more members the set has at least as many nodes
pub set_with_grows : (xs ys : List Value) → ((z : Value) → In z xs → In z ys) → node_count (Set (set_of value_cmp xs)) ≤ node_count (Set (set_of value_cmp ys))
set_with_grows xs ys f =
    let total = part_sum value_cmp value_total node_count (set_of value_cmp xs) (set_of value_cmp ys) (set_of_ascends value_cmp value_total value_same xs) (set_of_ascends value_cmp value_total value_same ys)
    (λ z h. (in_set_of value_cmp value_total value_same z ys).1 (f z ((in_set_of value_cmp value_total value_same z xs).0 h))) in
    omega (arith, total, count-Set (set_of value_cmp xs), count-Set (set_of value_cmp ys))

-- where some of the members are too many, all are
pub set_with_too_large : (xs ys : List Value) → ((z : Value) → In z xs → In z ys) → set_with xs ≡ Err TooLarge → set_with ys ≡ Err TooLarge
set_with_too_large xs ys f e = limited_refuses _ (omega (arith, set_with_grows xs ys f, refused_is_large _ e))

-- the set with one more member, put in its place or at the end of the list
pub one_more : (xs : List Value) (x : Value) → insert value_cmp x (set_of value_cmp xs) ≡ set_of value_cmp (xs ++ x ∷ [])
one_more xs x = set_of_same value_cmp value_total value_same (x ∷ xs) (xs ++ x ∷ []) (λ z. (
  λ h. (in_push z xs x).1 (elim h [ inl e ↦ inr e | inr e ↦ inl e ]),
  λ h. elim ((in_push z xs x).0 h) [ inl e ↦ inr e | inr e ↦ inl e ],
))

-- ---- a test of membership

pub is_among_finds : (xs : List Value) (x : Value) → IsTrue (is_among xs x) ↔ In x xs
is_among_finds [] x = (λ h. cc, λ h. absurd h)
is_among_finds (y ∷ ys) x = go (same_value y x) refl (is_among_finds ys x)
  where
    go : (b : Bool) → same_value y x ≡ b → IsTrue (is_among ys x) ↔ In x ys → IsTrue (b || is_among ys x) ↔ ((x ≡ y) ⊎ In x ys)
    go true e more = (λ h. inl (sym ((value_decides y x).0 e)), λ h. refl)
    go false e more = (λ h. inr (more.0 h), λ h. elim h [ inl f ↦ absurd (let g = (value_decides y x).1 (sym f) in cc) | inr f ↦ more.1 f ])

-- a test that answers as membership does is the test of membership
pub is_among_is : (xs : List Value) (x : Value) (b : Bool) → IsTrue b ↔ In x xs → b ≡ is_among xs x
is_among_is xs x b f = go b (is_among xs x) (λ h. (is_among_finds xs x).1 (f.0 h)) (λ h. f.1 ((is_among_finds xs x).0 h))
  where
    go : (p q : Bool) → (p ≡ true → q ≡ true) → (q ≡ true → p ≡ true) → p ≡ q
    go true true g h = refl
    go true false g h = sym (g refl)
    go false true g h = h refl
    go false false g h = refl

-- ---- kept values

pub kept_elements : (v : Value) → IsKept v → IsAscending value_cmp (elements v) × AllByRecursion IsValue (elements v)
kept_elements v k = (elements_ascend v k.value, elements_are_values v k.value)

-- a member of a kept set is kept
pub member_kept : (v x : Value) → IsKept v → In x (elements v) → IsKept x
member_kept v x k h = record {
  value = all_in IsValue (elements v) (elements_are_values v k.value) x h;
  size = (let s = k.size in omega (arith, map_member_sum node_count x (elements v) h, count-elements v));
}

-- each member of a kept set is kept
pub members_kept : (v : Value) → IsKept v → AllByRecursion IsKept (elements v)
members_kept v k = all_from IsKept (elements v) (λ x h. member_kept v x k h)

-- the parts of a kept couple are kept
pub parts_kept : (a b : Value) → IsKept (Pair a b) → IsKept a × IsKept b
parts_kept a b k =
    let parts = couple_parts a b k.value in
    let s = k.size in
    (record { value = parts.0; size = omega (arith, count-Pair a b) }, record { value = parts.1; size = omega (arith, count-Pair a b) })

-- ---- what answers a row

-- the members of what answers are those of the list
pub answers_members : (xs : List Value) (r : Result Value OpFault) → Answers (set_with xs) r → IfOk r (λ v. (z : Value) → In z (elements v) ↔ In z xs)
answers_members xs (Ok v) a = set_with_members xs v a
answers_members xs (Err e) a = tt

-- what answers is kept where the members are values
pub answers_kept : (xs : List Value) (r : Result Value OpFault) → AllByRecursion IsValue xs → Answers (set_with xs) r → IfOk r (λ v. IsKept v)
answers_kept xs (Ok v) k a = set_with_kept xs v k a
answers_kept xs (Err e) k a = tt

-- what answers for one list answers for another with the same members
pub answers_same : (xs ys : List Value) (r : Result Value OpFault) → ((z : Value) → In z xs ↔ In z ys) → Answers (set_with xs) r → Answers (set_with ys) r
answers_same xs ys r f a = subst (λ row. Answers row r) (set_with_same xs ys f) a

-- the members of what answers, in the words of a test of each value
pub answers_law : (P : Value → Type 0) (xs : List Value) (r : Result Value OpFault) → ((z : Value) → In z xs ↔ P z) → Answers (set_with xs) r → IfOk r (λ v. (z : Value) → In z (elements v) ↔ P z)
answers_law P xs (Ok v) f a = λ z. (
  λ h. (f z).0 ((set_with_members xs v a z).0 h),
  λ h. (set_with_members xs v a z).1 ((f z).1 h),
)
answers_law P xs (Err e) f a = tt

-- a fault of part of the members is the fault of all
pub fault_of_more : (xs ys : List Value) (e : OpFault) → ((z : Value) → In z xs → In z ys) → FaultOf (set_with xs) e → FaultOf (set_with ys) e
fault_of_more xs ys (Fault k) f a =
    let large : k ≡ TooLarge = limited_fault _ k a in
    subst (λ w. set_with ys ≡ Err w) (sym large) (set_with_too_large xs ys f (subst (λ w. set_with xs ≡ Err w) large a))
fault_of_more xs ys Memory f a = tt

-- ---- gathering

-- a set's own members give it again
pub set_of_twice : (xs : List Value) → set_of value_cmp (set_of value_cmp xs) ≡ set_of value_cmp xs
set_of_twice xs = set_of_itself value_cmp value_total value_same (set_of value_cmp xs) (set_of_ascends value_cmp value_total value_same xs)

pub set_with_set_of : (xs : List Value) → set_with (set_of value_cmp xs) ≡ set_with xs
set_with_set_of xs = ap (λ ys. limited (Set ys)) (set_of_twice xs)

-- what is gathered after one more
pub gathered_more : (before after xs : List Value) (x : Value) → before ≡ set_of value_cmp xs → after ≡ insert value_cmp x before → after ≡ set_of value_cmp (xs ++ x ∷ [])
gathered_more before after xs x e f = f ∙ ap (insert value_cmp x) e ∙ one_more xs x

-- a fault of what is gathered is the fault of the whole
pub gathered_fault : (before xs ys : List Value) (e : OpFault) → before ≡ set_of value_cmp xs → ((z : Value) → In z xs → In z ys) → FaultOf (set_with before) e → FaultOf (set_with ys) e
gathered_fault before xs ys e same f a = fault_of_more xs ys e f (subst (λ row. FaultOf row e) (ap set_with same ∙ set_with_set_of xs) a)

-- the set of what is gathered is the set of the list
pub gathered_all : (whole xs : List Value) (r : Result Value OpFault) → whole ≡ set_of value_cmp xs → Answers (set_with whole) r → Answers (set_with xs) r
gathered_all whole xs r same a = subst (λ row. Answers row r) (ap set_with same ∙ set_with_set_of xs) a

-- a list of values with too many nodes for a set's members
pub too_many : (xs : List Value) → IsAscending value_cmp xs → 999999 < sum (map node_count xs) → set_with xs ≡ Err TooLarge
too_many xs a h = set_in_order_with xs a ∙ limited_refuses (Set xs) (omega (arith, count-Set xs))

-- members in order that are within the limit are answered
pub few_enough : (xs ys : List Value) (left : ℕ) → IsAscending value_cmp xs → sum (map node_count ys) + left ≡ 999999 → ys ≡ xs → set_with xs ≡ Ok (Set ys)
few_enough xs ys left a h e = ap set_with (sym e) ∙ set_in_order_with ys (subst (IsAscending value_cmp) (sym e) a) ∙ limited_fits (Set ys) (omega (arith, count-Set ys))

-- members in order with one more that passes the limit are refused
pub one_too_many : (xs ys : List Value) (v : Value) (left : ℕ) → ys ≡ xs → sum (map node_count ys) + left ≡ 999999 → left < node_count v → IsAscending value_cmp (xs ++ v ∷ []) → set_with (xs ++ v ∷ []) ≡ Err TooLarge
one_too_many xs ys v left e h l a = too_many (xs ++ v ∷ []) a (omega (arith, map_append_sum node_count xs (v ∷ []), map_cons_sum node_count v [], ap (λ zs. sum (map node_count zs)) e))

-- a row's fault answers it
pub answers_fault : (row : Result Value FaultKind) (e : OpFault) → FaultOf row e → Answers row (Err e)
answers_fault row (Fault k) a = a
answers_fault row Memory a = tt
