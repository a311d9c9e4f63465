-- The laws of the integers from one number to another.
use Rattle.std.proofs.Common.{◌≡◌, ◌⊎◌, ◌↔◌, ◌≤◌, ◌<◌, ◌+◌, ℕ, zero, suc, ℤ, pos, negsuc, ◌+ℤ◌, ◌≤ℤ◌, true, List, [], ◌∷◌, length, map, sum, Result, Ok, Err, arith, refl, sym, ap, ◌∙◌, subst, inl, inr, ◌++◌}
use Rattle.std.specs.Prelude.{◌-ℤ◌, ◌<ℤ◌, int_lt, IfOk}
use Rattle.std.specs.List.{range_with_len}
use Rattle.std.specs.Ordering.{int_cmp}
use Rattle.std.specs.declared.cmp.Ordering.TheVariants.{Less}
use Rattle.std.proofs.lemmas.Bool.{cases_order}
use Rattle.std.proofs.lemmas.Int.{ints}
use Rattle.std.proofs.lemmas.List.FromFn.{length-range_with_len, map-range_with_len_more}
use Rattle.ascending.specs.Ascending.{In, IsAscending}
use Rattle.ascending.specs.AscendingLaws.{ascending_none, ascending_cons}
use Rattle.b_values.specs.OrderLaws.{cmp-Int}
use Rattle.b_values.specs.SizeLaws.{count-Int}
use Rattle.b_values.specs.ValueLaws.{is_int}
use Rattle.b_values.specs.Values.{value_cmp, node_count, elements, IsValue, IsKept}
use Rattle.b_values.specs.declared.values.FaultKind.TheVariants.{TooLarge}
use Rattle.b_values.specs.declared.values.Value.{Value, out-Value, roll-Value, roll-out-Value}
use Rattle.b_values.specs.declared.values.Value.TheOpen.{Value-F}
use Rattle.b_values.specs.declared.values.Value.TheVariants.{Int, rolls-Int, outs-Int}
use Rattle.set_making.specs.declared.OpFault.{OpFault}
use Rattle.set_making.specs.Making.{Answers, set_with}
use Rattle.set_making.specs.MakingLaws.{answers_law, answers_kept, too_many}
use Rattle.set_making.specs.Sums.{map_cons_sum}
use Rattle.set_making.specs.ListMembers.{in_map, all_map}
use Rattle.b_sets.specs.Rows.{natural_part, how_many, integers, interval_layer, interval_row}
use Rattle.b_sets.specs.Members.{IsBetween}

-- ---- numbers

pub within_part : (w : ℤ) (k : ℕ) → k < natural_part w → pos k <ℤ w
within_part (pos n) k h = omega (arith, ints)
within_part (negsuc n) k h = absurd (omega arith)

part_above : (w : ℤ) (k : ℕ) → pos k <ℤ w → k < natural_part w
part_above (pos n) k h = omega (arith, ints)
part_above (negsuc n) k h = absurd (omega (arith, ints))

part_is : (w : ℤ) → pos 0 ≤ℤ w → pos (natural_part w) ≡ w
part_is (pos n) h = refl
part_is (negsuc n) h = absurd (omega (arith, ints))

-- the number at a place is not above the last
pub at_most_high : (a b : ℤ) (k : ℕ) → k < how_many a b → (a +ℤ pos k) ≤ℤ b
at_most_high a b k h = let w = within_part (b +ℤ pos 1 -ℤ a) k h in omega (arith, ints)

placed_within : (a b z : ℤ) (k : ℕ) → k < how_many a b → z ≡ a +ℤ pos k → (a ≤ℤ z) × (z ≤ℤ b)
placed_within a b z k h e = let w = within_part (b +ℤ pos 1 -ℤ a) k h in (omega (arith, ints), omega (arith, ints))

place_of : (a b z : ℤ) → a ≤ℤ z → z ≤ℤ b → (k : ℕ) × (k < how_many a b) × (z ≡ a +ℤ pos k)
place_of a b z h k =
    let p = part_is (z -ℤ a) (omega (arith, ints)) in
    (natural_part (z -ℤ a), part_above (b +ℤ pos 1 -ℤ a) (natural_part (z -ℤ a)) (omega (arith, ints)), omega (arith, ints))

in_range : (k a n : ℕ) → In k (range_with_len a n) ↔ ((a ≤ k) × (k < a + n))
in_range k a zero = (λ h. absurd h, λ h. let p = h.0 in let q = h.1 in absurd (omega arith))
in_range k a (suc n) = (
  λ h. elim h [ inl e ↦ (omega arith, omega arith) | inr m ↦ (let p = (in_range k (a + 1) n).0 m in let q = p.0 in let r = p.1 in (omega arith, omega arith)) ],
  λ h. let p = h.0 in let q = h.1 in go p q (λ l m. (in_range k (a + 1) n).1 (l, m)),
)
  where
    go : a ≤ k → k < a + suc n → (a + 1 ≤ k → k < a + 1 + n → In k (range_with_len (a + 1) n)) → (k ≡ a) ⊎ In k (range_with_len (a + 1) n)
    go p q more = elim (cases_order k a) [ inl e ↦ inl e | inr d ↦ elim d [ inl l ↦ absurd (omega arith) | inr l ↦ inr (more (omega arith) (omega arith)) ] ]

-- ---- members

in_integers : (a b : ℤ) (x : Value) → In x (map Int (integers a b)) ↔ ((z : ℤ) × (a ≤ℤ z) × (z ≤ℤ b) × (x ≡ Int z))
in_integers a b x = (
  λ h.
      let p = (in_map Int x (integers a b)).0 h in
      let q = (in_map (λ k. a +ℤ pos k) p.0 (range_with_len 0 (how_many a b))).0 p.1 in
      let r = (in_range q.0 0 (how_many a b)).0 q.1 in
      let l : q.0 < how_many a b = (let s = r.1 in omega arith) in
      let w = placed_within a b p.0 q.0 l q.2 in
      (p.0, w.0, w.1, p.2),
  λ h.
      let p = place_of a b h.0 h.1 h.2 in
      let l = p.1 in
      (in_map Int x (integers a b)).1 (h.0, (in_map (λ k. a +ℤ pos k) h.0 (range_with_len 0 (how_many a b))).1 (p.0, (in_range p.0 0 (how_many a b)).1 (omega arith, omega arith), p.2), h.3),
)

int_from_layer : (v : Value) (n : ℤ) → out-Value v ≡ Value-F.Int n → v ≡ Int n
int_from_layer v n e = sym (roll-out-Value v) ∙ ap roll-Value e ∙ rolls-Int n

int_layer : (m n : ℤ) → Int m ≡ Int n → m ≡ n
int_layer m n e = cc

between_ints : (m n : ℤ) (a b : Value) → a ≡ Int m → b ≡ Int n → (x : Value) → In x (map Int (integers m n)) ↔ IsBetween a b x
between_ints m n a b e f x = (
  λ h. let p = (in_integers m n x).0 h in record { low = m; high = n; number = p.0; low_is = e; high_is = f; number_is = p.3; from_low = p.1; to_high = p.2 },
  λ h.
      let i : h.low ≡ m = int_layer h.low m (sym h.low_is ∙ e) in
      let j : h.high ≡ n = int_layer h.high n (sym h.high_is ∙ f) in
      (in_integers m n x).1 (h.number, subst (λ z. z ≤ℤ h.number) i h.from_low, subst (λ z. h.number ≤ℤ z) j h.to_high, h.number_is),
)

layers_law : (a b : Value) (x y : Value-F Value) → out-Value a ≡ x → out-Value b ≡ y → (r : Result Value OpFault) → Answers (interval_layer x y) r → IfOk r (λ v. (z : Value) → In z (elements v) ↔ IsBetween a b z)
layers_law a b x y e f (Err k) w = tt
layers_law a b (Value-F.Int m) (Value-F.Int n) e f (Ok v) w =
    answers_law (IsBetween a b) (map Int (integers m n)) (Ok v) (between_ints m n a b (int_from_layer a m e) (int_from_layer b n f)) w
layers_law a b x y e f (Ok v) w = absurd (cc)

pub interval_law : (a b : Value) (r : Result Value OpFault) → Answers (interval_row a b) r → IfOk r (λ v. (x : Value) → In x (elements v) ↔ IsBetween a b x)
interval_law a b r w = layers_law a b (out-Value a) (out-Value b) refl refl r w

layers_kept : (x y : Value-F Value) (r : Result Value OpFault) → Answers (interval_layer x y) r → IfOk r (λ v. IsKept v)
layers_kept x y (Err k) w = tt
layers_kept (Value-F.Int m) (Value-F.Int n) (Ok v) w = answers_kept (map Int (integers m n)) (Ok v) (all_map IsValue Int (integers m n) (λ z h. is_int z)) w
layers_kept x y (Ok v) w = absurd (cc)

pub interval_kept : (a b : Value) (r : Result Value OpFault) → Answers (interval_row a b) r → IfOk r (λ v. IsKept v)
interval_kept a b r w = layers_kept (out-Value a) (out-Value b) r w

-- ---- order and nodes

int_below : (m n : ℤ) → m <ℤ n → value_cmp (Int m) (Int n) ≡ Less
int_below m n h = let t : int_lt m n ≡ true = grind (arith, ints) in cmp-Int m n ∙ (let c : int_cmp m n ≡ Less = cc in c)

numbers_ascend : (a : ℤ) (k n : ℕ) → IsAscending value_cmp (map Int (map (λ i. a +ℤ pos i) (range_with_len k n)))
numbers_ascend a k zero = ascending_none value_cmp
numbers_ascend a k (suc n) = ascending_cons value_cmp (Int (a +ℤ pos k)) (map Int (map (λ i. a +ℤ pos i) (range_with_len (k + 1) n)))
    (all_map (λ z. value_cmp (Int (a +ℤ pos k)) z ≡ Less) Int (map (λ i. a +ℤ pos i) (range_with_len (k + 1) n)) (λ z h.
    let p = (in_map (λ i. a +ℤ pos i) z (range_with_len (k + 1) n)).0 h in
    let l = ((in_range p.0 (k + 1) n).0 p.1).0 in
    let e = p.2 in
    int_below (a +ℤ pos k) z (omega (arith, ints))))
    (numbers_ascend a (k + 1) n)

pub integers_ascend : (a b : ℤ) → IsAscending value_cmp (map Int (integers a b))
integers_ascend a b = numbers_ascend a 0 (how_many a b)

int_nodes : (zs : List ℤ) → sum (map node_count (map Int zs)) ≡ length zs
int_nodes [] = refl
int_nodes (z ∷ zs) = omega (arith, map_cons_sum node_count (Int z) (map Int zs), int_nodes zs, count-Int z)

length_of_map : {X Y : Type 0} (f : X → Y) (xs : List X) → length (map f xs) ≡ length xs
length_of_map f [] = refl
length_of_map f (x ∷ xs) = omega (arith, length_of_map f xs)

pub integers_nodes : (a b : ℤ) → sum (map node_count (map Int (integers a b))) ≡ how_many a b
integers_nodes a b = int_nodes (integers a b) ∙ length_of_map (λ k. a +ℤ pos k) (range_with_len 0 (how_many a b)) ∙ length-range_with_len 0 (how_many a b)

map_twice : {X Y Z : Type 0} (f : X → Y) (g : Y → Z) (xs : List X) → map g (map f xs) ≡ map (λ x. g (f x)) xs
map_twice f g [] = refl
map_twice f g (x ∷ xs) = ap (λ ys. g (f x) ∷ ys) (map_twice f g xs)

pub integers_at : (a b : ℤ) → map (λ k. Int (a +ℤ pos k)) (range_with_len 0 (how_many a b)) ≡ map Int (integers a b)
integers_at a b = sym (map_twice (λ k. a +ℤ pos k) Int (range_with_len 0 (how_many a b)))

-- ---- the loop, and the limit

pub integers_more : (low : ℤ) (items more : List Value) (v : Value) (place : ℕ) → items ≡ map (λ k. Int (low +ℤ pos k)) (range_with_len 0 place) → v ≡ Int (low +ℤ pos place) → more ≡ items ++ v ∷ []
    → more ≡ map (λ k. Int (low +ℤ pos k)) (range_with_len 0 (place + 1))
integers_more low items more v place before new grown =
    grown ∙ ap (λ xs. xs ++ v ∷ []) before
    ∙ ap (λ w. map (λ k. Int (low +ℤ pos k)) (range_with_len 0 place) ++ w ∷ []) new
    ∙ sym (map-range_with_len_more (λ k. Int (low +ℤ pos k)) 0 place place (omega arith))

pub integers_done : (low high : ℤ) (items : List Value) (place : ℕ) → items ≡ map (λ k. Int (low +ℤ pos k)) (range_with_len 0 place) → place ≡ how_many low high → items ≡ map Int (integers low high)
integers_done low high items place before end =
    before
    ∙ ap (λ n. map (λ k. Int (low +ℤ pos k)) (range_with_len 0 n)) end
    ∙ integers_at low high

pub integers_refused : (a b : ℤ) → 999999 < how_many a b → set_with (map Int (integers a b)) ≡ Err TooLarge
integers_refused a b h = too_many (map Int (integers a b)) (integers_ascend a b) (omega (arith, integers_nodes a b))

pub interval_answers : (a b : Value) (m n : ℤ) (r : Result Value OpFault) → a ≡ Int m → b ≡ Int n → Answers (set_with (map Int (integers m n))) r → Answers (interval_row a b) r
interval_answers a b m n r e f w =
    let x : out-Value a ≡ Value-F.Int m = ap out-Value e ∙ outs-Int m in
    let y : out-Value b ≡ Value-F.Int n = ap out-Value f ∙ outs-Int n in
    subst (λ l. Answers (interval_layer l (out-Value b)) r) (sym x) (subst (λ l. Answers (interval_layer (Value-F.Int m) l) r) (sym y) w)

pub int_kept : (n : ℤ) → IsKept (Int n)
int_kept n = record { value = is_int n; size = omega (arith, count-Int n) }
