-- The laws of the couples of two lists: their members, their order and their nodes.
use Rattle.std.proofs.Common.{◌≡◌, ◌↔◌, ◌≤◌, ◌<◌, ◌+◌, ◌*◌, ℕ, suc, List, [], ◌∷◌, ◌++◌, length, map, sum, Result, Err, arith, refl, sym, ap, ◌∙◌, subst, drop, get_or, append_assoc}
use Rattle.std.proofs.Math.Nat.{mul-le-mul}
use Rattle.std.specs.Prelude.{IfOk}
use Rattle.std.specs.declared.cmp.Ordering.TheVariants.{Less}
use Rattle.std.specs.Ordering.{ordering_then}
use Rattle.std.specs.Cmp.{tied_itself}
use Rattle.ascending.specs.Ascending.{In, IsAscending}
use Rattle.ascending.specs.Members.{all_in, all_from}
use Rattle.ascending.specs.AscendingLaws.{ascending_none, ascending_cons, ascending_head, ascending_tail, ascending_join}
use Rattle.b_values.specs.OrderLaws.{value_total, cmp-Pair}
use Rattle.b_values.specs.SizeLaws.{count_at, count-Pair, count-elements}
use Rattle.b_values.specs.ValueLaws.{elements_are_values, is_couple}
use Rattle.b_values.specs.Values.{value_cmp, node_count, elements, IsValue, IsKept}
use Rattle.b_values.specs.declared.values.FaultKind.TheVariants.{TooLarge}
use Rattle.b_values.specs.declared.values.Value.{Value, out-Value}
use Rattle.b_values.specs.declared.values.Value.TheOpen.{Value-F}
use Rattle.b_values.specs.declared.values.Value.TheVariants.{Pair}
use Rattle.set_making.specs.declared.OpFault.{OpFault}
use Rattle.set_making.specs.Making.{Answers, set_with}
use Rattle.set_making.specs.MergePlaces.{rest_at}
use Rattle.set_making.specs.MakingLaws.{answers_law, answers_kept, too_many}
use Rattle.set_making.specs.Sums.{length_below_sum, map_cons_sum, map_append_sum}
use Rattle.set_making.specs.ListMembers.{in_map, in_flat_map, all_map, all_flat_map}
use Rattle.b_sets.specs.Rows.{couples, times_row}
use Rattle.b_sets.specs.Members.{IsCoupleOf}

-- one value with each of a list
abbrev pub row_of : Value → List Value → List Value
row_of x ys = map (λ y. Pair x y) ys

-- ---- members

pub in_couples : (z : Value) (xs ys : List Value) → In z (couples xs ys) ↔ IsCoupleOf xs ys z
in_couples z xs ys = (
  λ h. let p = (in_flat_map (λ x. row_of x ys) z xs).0 h in let q = (in_map (λ y. Pair p.0 y) z ys).0 p.2 in
      record { first = p.0; second = q.0; first_in = p.1; second_in = q.1; is = q.2 },
  λ h. (in_flat_map (λ x. row_of x ys) z xs).1 (h.first, h.first_in, (in_map (λ y. Pair h.first y) z ys).1 (h.second, h.second_in, h.is)),
)

pub times_law : (s t : Value) (r : Result Value OpFault) → Answers (times_row s t) r → IfOk r (λ v. (x : Value) → In x (elements v) ↔ IsCoupleOf (elements s) (elements t) x)
times_law s t r a = answers_law (λ x. IsCoupleOf (elements s) (elements t) x) (couples (elements s) (elements t)) r (λ x. in_couples x (elements s) (elements t)) a

pub times_kept : (s t : Value) (r : Result Value OpFault) → IsKept s → IsKept t → Answers (times_row s t) r → IfOk r (λ v. IsKept v)
times_kept s t r k l a = answers_kept (couples (elements s) (elements t)) r
    (all_flat_map IsValue (λ x. row_of x (elements t)) (elements s) (λ x m. all_map IsValue (λ y. Pair x y) (elements t)
    (λ y n. is_couple x y (all_in IsValue (elements s) (elements_are_values s k.value) x m) (all_in IsValue (elements t) (elements_are_values t l.value) y n)))) a

-- ---- order

by_second : (x y z : Value) → value_cmp y z ≡ Less → value_cmp (Pair x y) (Pair x z) ≡ Less
by_second x y z e = cmp-Pair x y x z ∙ ap (λ o. ordering_then o (value_cmp y z)) (tied_itself value_total x) ∙ e

by_first : (w x y z : Value) → value_cmp w x ≡ Less → value_cmp (Pair w y) (Pair x z) ≡ Less
by_first w x y z e = cmp-Pair w y x z ∙ ap (λ o. ordering_then o (value_cmp y z)) e

row_ascends : (x : Value) (ys : List Value) → IsAscending value_cmp ys → IsAscending value_cmp (row_of x ys)
row_ascends x [] a = ascending_none value_cmp
row_ascends x (y ∷ ys) a = ascending_cons value_cmp (Pair x y) (row_of x ys)
    (all_map (λ z. value_cmp (Pair x y) z ≡ Less) (λ w. Pair x w) ys (λ w m. by_second x y w (all_in (λ v. value_cmp y v ≡ Less) ys (ascending_head value_cmp y ys a) w m)))
    (row_ascends x ys (ascending_tail value_cmp y ys a))

pub couples_ascend : (xs ys : List Value) → IsAscending value_cmp xs → IsAscending value_cmp ys → IsAscending value_cmp (couples xs ys)
couples_ascend [] ys a b = ascending_none value_cmp
couples_ascend (x ∷ xs) ys a b = ascending_join value_cmp (row_of x ys) (couples xs ys) (row_ascends x ys b) (couples_ascend xs ys (ascending_tail value_cmp x xs a) b)
    (λ z h. all_from (λ w. value_cmp z w ≡ Less) (couples xs ys) (λ w k.
    let p = (in_map (λ y. Pair x y) z ys).0 h in
    let q = (in_couples w xs ys).0 k in
    let below : value_cmp (Pair x p.0) (Pair q.first q.second) ≡ Less = by_first x q.first p.0 q.second (all_in (λ v. value_cmp x v ≡ Less) xs (ascending_head value_cmp x xs a) q.first q.first_in) in
    subst (λ v. value_cmp z v ≡ Less) (sym q.is) (subst (λ v. value_cmp v (Pair q.first q.second) ≡ Less) (sym p.2) below)))

-- ---- nodes

row_nodes : (x : Value) (ys : List Value) → sum (map node_count (row_of x ys)) ≡ length ys * (1 + node_count x) + sum (map node_count ys)
row_nodes x [] = omega arith
row_nodes x (y ∷ ys) = grind (arith, row_nodes x ys, map_cons_sum node_count y ys, map_cons_sum node_count (Pair x y) (row_of x ys), count-Pair x y)

joined : (l m y n x : ℕ) → (m * (1 + n) + y) + (l * (m + y) + m * x) ≡ suc l * (m + y) + m * (n + x)
joined l m y n x = omega arith

pub couples_nodes : (xs ys : List Value) → sum (map node_count (couples xs ys)) ≡ length xs * (length ys + sum (map node_count ys)) + length ys * sum (map node_count xs)
couples_nodes [] ys = omega arith
couples_nodes (x ∷ xs) ys =
    rw (map_append_sum node_count (row_of x ys) (couples xs ys), row_nodes x ys, couples_nodes xs ys, map_cons_sum node_count x xs)
    (joined (length xs) (length ys) (sum (map node_count ys)) (node_count x) (sum (map node_count xs)))

layer_positive : (v : Value) (x : Value-F Value) → out-Value v ≡ x → 1 ≤ node_count v
layer_positive v (Value-F.Int n) e = omega (arith, count_at v (Value-F.Int n) e)
layer_positive v (Value-F.Truth b) e = omega (arith, count_at v (Value-F.Truth b) e)
layer_positive v (Value-F.Text s) e = omega (arith, count_at v (Value-F.Text s) e)
layer_positive v (Value-F.Elem s i) e = omega (arith, count_at v (Value-F.Elem s i) e)
layer_positive v (Value-F.Pair a b) e = omega (arith, count_at v (Value-F.Pair a b) e)
layer_positive v (Value-F.Set xs) e = omega (arith, count_at v (Value-F.Set xs) e)

node_count_positive : (v : Value) → 1 ≤ node_count v
node_count_positive v = layer_positive v (out-Value v) refl

pub few_members : (xs : List Value) → sum (map node_count xs) ≤ 1000000 → length xs ≤ 1000000
few_members xs h = omega (arith, length_below_sum node_count node_count_positive xs)

pub first_bound : (l m y : ℕ) → l ≤ 1000000 → m ≤ 1000000 → y ≤ 1000000 → l * (m + y) ≤ 2000000000000
first_bound l m y h k j = omega (arith, mul-le-mul {n₁ = l} {m₁ = m + y} {n₂ = 1000000} {m₂ = 2000000} h (omega arith))

pub second_bound : (m x : ℕ) → m ≤ 1000000 → x ≤ 1000000 → m * x ≤ 1000000000000
second_bound m x h k = omega (arith, mul-le-mul {n₁ = m} {m₁ = x} {n₂ = 1000000} {m₂ = 1000000} h k)

-- ---- the loop, and the limit

pub couples_step : (xs ys found more seconds : List Value) (i : ℕ) (x first : Value) → i < length xs → x ≡ get_or xs i x → found ++ couples (drop i xs) ys ≡ couples xs ys
    → first ≡ x → seconds ≡ ys → more ≡ found ++ map (λ y. Pair first y) seconds → more ++ couples (drop (i + 1) xs) ys ≡ couples xs ys
couples_step xs ys found more seconds i x first h e before same all grown =
    rw (grown, same, all, append_assoc) (ap (λ l. found ++ couples l ys) (sym (rest_at xs i x h e)) ∙ before)

pub couples_refused : (xs ys : List Value) (n : ℕ) → IsAscending value_cmp xs → IsAscending value_cmp ys → n ≡ sum (map node_count (couples xs ys)) → 1000000 ≤ n → set_with (couples xs ys) ≡ Err TooLarge
couples_refused xs ys n a b e h = too_many (couples xs ys) (couples_ascend xs ys a b) (omega arith)

pub few_nodes : (s : Value) → IsKept s → sum (map node_count (elements s)) ≤ 1000000
few_nodes s k = let h = k.size in omega (arith, count-elements s)
