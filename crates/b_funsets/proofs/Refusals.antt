-- Where the sets of subsets are too large, and what an answer has.
use Rattle.std.proofs.Common.{◌≡◌, ◌↔◌, ℕ, ◌+◌, ◌*◌, ◌^◌, ◌<◌, ◌≤◌, List, [], map, length, arith, refl, ◌∙◌, Result, Err}
use Rattle.std.specs.Prelude.{IfOk}
use Rattle.std.proofs.Math.Nat.{pow-le-pow_right, mul-le-mul_left}
use Rattle.ascending.specs.Ascending.{In, IsAscending}
use Rattle.b_values.specs.Values.{elements, node_count, value_cmp, IsKept}
use Rattle.b_values.specs.SizeLaws.{count-Set}
use Rattle.b_values.specs.ValueLaws.{elements_ascend, elements_are_values}
use Rattle.b_values.specs.declared.values.FaultKind.TheVariants.{TooLarge}
use Rattle.b_values.specs.declared.values.Value.{Value}
use Rattle.b_values.specs.declared.values.Value.TheVariants.{Set}
use Rattle.set_making.specs.Making.{set_with, Answers}
use Rattle.set_making.specs.MakingLaws.{set_in_order_with, limited_refuses, answers_law, answers_kept}
use Rattle.set_making.specs.Sums.{map_cons_sum}
use Rattle.set_making.specs.declared.OpFault.{OpFault}
use Rattle.b_funsets.specs.Families.{nonempty_sublists, sublists, couples, IsSubset, IsNonemptySubset, IsRelation}
use Rattle.b_funsets.proofs.SubsetSizes.{total, subsets_total}
use Rattle.b_funsets.proofs.FamilyLaws.{subsets_ascend, nonempty_subsets_ascend, subsets_are_values, subset_members, nonempty_subset_members}
use Rattle.b_funsets.proofs.CoupleLaws.{couples_ascend, couples_are_values, length-couples, relation_members}

-- more than 20 elements have too many subsets
pub many_subsets : (n m limit : ℕ) → 20 < n → limit ≤ 2000000 → 2 ^ n * (2 + m) ≤ limit → ⊥
many_subsets n m limit h k l =
    let p : 2097152 ≤ 2 ^ n = pow-le-pow_right {n = 2} (omega arith) {i = 21} {j = n} (omega arith) in
    let q : 2 ^ n * 2 ≤ 2 ^ n * (2 + m) = mul-le-mul_left (2 ^ n) (omega arith) in
    omega arith

pub subsets_refused : (xs : List Value) → IsAscending value_cmp xs → (2 ^ length xs * (2 + total xs) ≤ 1999998 → ⊥) → set_with (map Set (sublists xs)) ≡ Err TooLarge
subsets_refused xs a h = set_in_order_with (map Set (sublists xs)) (subsets_ascend xs a)
    ∙ limited_refuses (Set (map Set (sublists xs)))
    (let n : 1999998 < 2 ^ length xs * (2 + total xs) = omega (arith, h) in
    omega (arith, count-Set (map Set (sublists xs)), map_cons_sum node_count (Set []) (map Set (nonempty_sublists xs)), count-Set [], subsets_total xs))

pub nonempty_refused : (xs : List Value) → IsAscending value_cmp xs → (2 ^ length xs * (2 + total xs) ≤ 2000000 → ⊥) → set_with (map Set (nonempty_sublists xs)) ≡ Err TooLarge
nonempty_refused xs a h = set_in_order_with (map Set (nonempty_sublists xs)) (nonempty_subsets_ascend xs a)
    ∙ limited_refuses (Set (map Set (nonempty_sublists xs)))
    (let n : 2000000 < 2 ^ length xs * (2 + total xs) = omega (arith, h) in
    omega (arith, count-Set (map Set (nonempty_sublists xs)), subsets_total xs))

pub relations_refused : (s t xs ys : List Value) → xs ≡ s → ys ≡ t → IsAscending value_cmp s → IsAscending value_cmp t → (length xs * length ys ≤ 20 → ⊥) → set_with (map Set (sublists (couples s t))) ≡ Err TooLarge
relations_refused s t xs ys e f a b h =
    let n : length xs * length ys ≡ length s * length t = rw (e, f) refl in
    subsets_refused (couples s t) (couples_ascend s t a b)
    (λ k. many_subsets (length (couples s t)) (total (couples s t)) 1999998 (let l : 20 < length xs * length ys = omega (arith, h) in omega (arith, length-couples s t)) (omega arith) k)

-- ---- what an answer has

pub pow_kept : (s : Value) (r : Result Value OpFault) → IsKept s → Answers (set_with (map Set (sublists (elements s)))) r → IfOk r (λ v. IsKept v)
pow_kept s r k h = answers_kept (map Set (sublists (elements s))) r (subsets_are_values (elements s) (elements_ascend s k.value) (elements_are_values s k.value)) h

pub pow_members : (s : Value) (r : Result Value OpFault) → IsKept s → Answers (set_with (map Set (sublists (elements s)))) r → IfOk r (λ v. (x : Value) → In x (elements v) ↔ IsSubset s x)
pow_members s r k h = answers_law (IsSubset s) (map Set (sublists (elements s))) r (subset_members s (elements_ascend s k.value)) h

pub pow1_kept : (s : Value) (r : Result Value OpFault) → IsKept s → Answers (set_with (map Set (nonempty_sublists (elements s)))) r → IfOk r (λ v. IsKept v)
pow1_kept s r k h = answers_kept (map Set (nonempty_sublists (elements s))) r (subsets_are_values (elements s) (elements_ascend s k.value) (elements_are_values s k.value)).1 h

pub pow1_members : (s : Value) (r : Result Value OpFault) → IsKept s → Answers (set_with (map Set (nonempty_sublists (elements s)))) r → IfOk r (λ v. (x : Value) → In x (elements v) ↔ IsNonemptySubset s x)
pow1_members s r k h = answers_law (IsNonemptySubset s) (map Set (nonempty_sublists (elements s))) r (nonempty_subset_members s (elements_ascend s k.value)) h

module _ (s t : Value) (r : Result Value OpFault) (k : IsKept s) (l : IsKept t) (h : Answers (set_with (map Set (sublists (couples (elements s) (elements t))))) r) where
  pub relations_kept : IfOk r (λ v. IsKept v)
  relations_kept = answers_kept (map Set (sublists (couples (elements s) (elements t)))) r
      (subsets_are_values (couples (elements s) (elements t)) (couples_ascend (elements s) (elements t) (elements_ascend s k.value) (elements_ascend t l.value))
      (couples_are_values (elements s) (elements t) (elements_are_values s k.value) (elements_are_values t l.value))) h

  pub relations_members : IfOk r (λ v. (x : Value) → In x (elements v) ↔ IsRelation s t x)
  relations_members = answers_law (IsRelation s t) (map Set (sublists (couples (elements s) (elements t)))) r (relation_members s t (elements_ascend s k.value) (elements_ascend t l.value)) h
