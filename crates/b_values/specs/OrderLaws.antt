-- The laws of the order of values.
use Rattle.std.proofs.Math.Nat.{eq-or-lt_of_le}
use Rattle.std.proofs.Common.{◌<◌, ◌≤◌, arith, suc, inl, inr, ◌+◌, ◌⊎◌, length, ◌≡◌, ℕ, ℤ, Bool, true, false, List, [], ◌∷◌, map, refl, sym, ap, ◌∙◌}
use Rattle.std.specs.declared.cmp.Ordering.{Ordering}
use Rattle.std.specs.declared.cmp.Ordering.TheVariants.{Less, Equal, Greater}
use Rattle.std.specs.Ordering.{MatchOrdering, ordering_then, ordering_reverse, nat_cmp, int_cmp, bool_cmp}
use Rattle.std.specs.Cmp.{IsTotalOrder, ranks, nat_cmp_total, int_cmp_total, bool_cmp_total}
use Rattle.std.specs.Cmp.Lexicographic.{slice_cmp, nat_list_cmp_total}
use Rattle.std.specs.FinSet.{IsAntisymmetric, nat_cmp-IsAntisymmetric, int_cmp-IsAntisymmetric, slice_cmp-IsAntisymmetric}
use Rattle.b_values.specs.Values.{rank, compare_layer, value_cmp}
use Rattle.b_values.specs.declared.values.Value.{Value, out-Value, roll-Value, roll-out-Value, out-roll-Value, map-Value, fold_out-Value}
use Rattle.b_values.specs.declared.values.Value.TheVariants.{Int, Truth, Text, Elem, Pair, Set, outs-Int, outs-Truth, outs-Text, outs-Elem, outs-Pair, outs-Set}
use Rattle.b_values.specs.declared.values.Value.TheOpen.{Value-F}
use Rattle.std.specs.List.{AllByRecursion}
use Rattle.b_values.specs.Layers.{Below, by_layers}

-- one layer of two values
abbrev pub layers_cmp : Value-F Value → Value-F Value → Ordering
layers_cmp x y = compare_layer (map-Value Value (Value → Ordering) value_cmp x) y

-- the order, from what the two layers are
pub cmp_out : (a b : Value) → value_cmp a b ≡ layers_cmp (out-Value a) (out-Value b)
cmp_out a b = ap (λ (f : Value → Ordering). f b) (fold_out-Value (Value → Ordering) (λ x v. compare_layer x (out-Value v)) a)

cmp_roll : (x : Value-F Value) (b : Value) → value_cmp (roll-Value x) b ≡ layers_cmp x (out-Value b)
cmp_roll x b = cmp_out (roll-Value x) b ∙ ap (λ y. layers_cmp y (out-Value b)) (out-roll-Value x)

cmp_to_roll : (a : Value) (x : Value-F Value) → value_cmp a (roll-Value x) ≡ layers_cmp (out-Value a) x
cmp_to_roll a x = cmp_out a (roll-Value x) ∙ ap (layers_cmp (out-Value a)) (out-roll-Value x)

-- lists compared by what the first has become, and by the order itself
pub slices : (xs ys : List Value) → slice_cmp (λ (f : Value → Ordering) x. f x) (map value_cmp xs) ys ≡ slice_cmp value_cmp xs ys
slices [] [] = refl
slices [] (y ∷ ys) = refl
slices (x ∷ xs) [] = refl
slices (x ∷ xs) (y ∷ ys) = ap (ordering_then (value_cmp x y)) (slices xs ys)

then_equal : (r s : Ordering) → ordering_then r s ≡ Equal → (r ≡ Equal) × (s ≡ Equal)
then_equal Less s e = cc
then_equal Equal s e = (refl, e)
then_equal Greater s e = cc

nat_below : (x y : ℕ) → x < y → nat_cmp x y ≡ Less
nat_below x y h = go (nat_cmp x y) (ranks x y)
  where
    go : (r : Ordering) → MatchOrdering r (x < y) (x ≡ y) (y < x) → r ≡ Less
    go Less k = refl
    go Equal k = absurd (omega arith)
    go Greater k = absurd (omega arith)

nat_above : (x y : ℕ) → y < x → nat_cmp x y ≡ Greater
nat_above x y h = nat_cmp_total.antisymm x y ∙ ap ordering_reverse (nat_below y x h)

-- ---- only equal values tie

abbrev Same : Value → Type 0
Same x = (y : Value) → value_cmp x y ≡ Equal → x ≡ y

lists_same : (xs ys : List Value) → AllByRecursion Same xs → slice_cmp value_cmp xs ys ≡ Equal → xs ≡ ys
lists_same [] [] k e = refl
lists_same [] (y ∷ ys) k e = cc
lists_same (x ∷ xs) [] k e = cc
lists_same (x ∷ xs) (y ∷ ys) k e =
    let p = then_equal _ _ e in
    let one = k.0 y p.0 in
    let more = lists_same xs ys k.1 p.1 in
    cc

truths_same : (p q : Bool) → bool_cmp p q ≡ Equal → p ≡ q
truths_same false false e = refl
truths_same true true e = refl
truths_same p q e = cc

layer_same : (x y : Value-F Value) → Below Same x → layers_cmp x y ≡ Equal → x ≡ y
layer_same (Value-F.Int m) (Value-F.Int n) k e = ap Value-F.Int (int_cmp-IsAntisymmetric m n e)
layer_same (Value-F.Truth p) (Value-F.Truth q) k e = ap Value-F.Truth (truths_same p q e)
layer_same (Value-F.Text s) (Value-F.Text t) k e = ap Value-F.Text (slice_cmp-IsAntisymmetric nat_cmp-IsAntisymmetric s t e)
layer_same (Value-F.Elem s i) (Value-F.Elem t j) k e = let p = then_equal _ _ e in let f = nat_cmp-IsAntisymmetric s t p.0 in let g = nat_cmp-IsAntisymmetric i j p.1 in cc
layer_same (Value-F.Pair a b) (Value-F.Pair c d) k e = let p = then_equal _ _ e in let f = k.0 c p.0 in let g = k.1 d p.1 in cc
layer_same (Value-F.Set xs) (Value-F.Set ys) k e = ap Value-F.Set (lists_same xs ys k (sym (slices xs ys) ∙ e))
layer_same x y k e = cc

pub value_same : IsAntisymmetric value_cmp
value_same = by_layers Same (λ x k y e. ap roll-Value (layer_same x (out-Value y) k (sym (cmp_roll x y) ∙ e)) ∙ roll-out-Value y)

-- ---- turned round

abbrev Flips : Value → Type 0
Flips x = (y : Value) → value_cmp x y ≡ ordering_reverse (value_cmp y x)

then_flip : (r s r' s' : Ordering) → r ≡ ordering_reverse r' → s ≡ ordering_reverse s' → ordering_then r s ≡ ordering_reverse (ordering_then r' s')
then_flip r s Less s' e f = rw e refl
then_flip r s Equal s' e f = rw (e, f) refl
then_flip r s Greater s' e f = rw e refl

lists_flip : (xs ys : List Value) → AllByRecursion Flips xs → slice_cmp value_cmp xs ys ≡ ordering_reverse (slice_cmp value_cmp ys xs)
lists_flip [] [] k = refl
lists_flip [] (y ∷ ys) k = refl
lists_flip (x ∷ xs) [] k = refl
lists_flip (x ∷ xs) (y ∷ ys) k = then_flip _ _ _ _ (k.0 y) (lists_flip xs ys k.1)

layer_flip : (x y : Value-F Value) → Below Flips x → layers_cmp x y ≡ ordering_reverse (layers_cmp y x)
layer_flip (Value-F.Int m) (Value-F.Int n) k = int_cmp_total.antisymm m n
layer_flip (Value-F.Truth p) (Value-F.Truth q) k = bool_cmp_total.antisymm p q
layer_flip (Value-F.Text s) (Value-F.Text t) k = nat_list_cmp_total.antisymm s t
layer_flip (Value-F.Elem s i) (Value-F.Elem t j) k = then_flip _ _ _ _ (nat_cmp_total.antisymm s t) (nat_cmp_total.antisymm i j)
layer_flip (Value-F.Pair a b) (Value-F.Pair c d) k = then_flip _ _ _ _ (k.0 c) (k.1 d)
layer_flip (Value-F.Set xs) (Value-F.Set ys) k = slices xs ys ∙ lists_flip xs ys k ∙ ap ordering_reverse (sym (slices ys xs))
layer_flip x y k = refl

pub value_flip : (x y : Value) → value_cmp x y ≡ ordering_reverse (value_cmp y x)
value_flip = by_layers Flips (λ x k y. cmp_roll x y ∙ layer_flip x (out-Value y) k ∙ ap ordering_reverse (sym (cmp_to_roll y x)))

-- ---- chained

abbrev Chains : Value → Type 0
Chains x = (y z : Value) → value_cmp x y ≡ Less → value_cmp y z ≡ Less → value_cmp x z ≡ Less

module _ {K : Type 0} (R : K → K → Ordering) (one : IsAntisymmetric R) where
  then_chain : (x y z : K) → (R x y ≡ Less → R y z ≡ Less → R x z ≡ Less) → (s t u : Ordering) → (s ≡ Less → t ≡ Less → u ≡ Less)
      → ordering_then (R x y) s ≡ Less → ordering_then (R y z) t ≡ Less → ordering_then (R x z) u ≡ Less
  then_chain x y z chain s t u rest p q = go (R x y) (R y z) refl refl p q
    where
      go : (r w : Ordering) → R x y ≡ r → R y z ≡ w → ordering_then r s ≡ Less → ordering_then w t ≡ Less → ordering_then (R x z) u ≡ Less
      go Less Less e f p q = rw (chain e f) refl
      go Less Equal e f p q = let same = one y z f in rw (← same, e) refl
      go Less Greater e f p q = cc
      go Equal Less e f p q = let same = one x y e in rw (same, f) refl
      go Equal Equal e f p q = let same = one x y e in rw (same, f) (rest p q)
      go Equal Greater e f p q = cc
      go Greater w e f p q = cc

lists_chain : (xs ys zs : List Value) → AllByRecursion Chains xs → slice_cmp value_cmp xs ys ≡ Less → slice_cmp value_cmp ys zs ≡ Less → slice_cmp value_cmp xs zs ≡ Less
lists_chain [] [] zs k p q = q
lists_chain [] (y ∷ ys) [] k p q = cc
lists_chain [] (y ∷ ys) (z ∷ zs) k p q = refl
lists_chain (x ∷ xs) [] zs k p q = cc
lists_chain (x ∷ xs) (y ∷ ys) [] k p q = q
lists_chain (x ∷ xs) (y ∷ ys) (z ∷ zs) k p q = then_chain value_cmp value_same x y z (k.0 y z) _ _ _ (lists_chain xs ys zs k.1) p q

-- three of one kind
level_chain : (x y z : Value-F Value) → Below Chains x → rank x ≡ rank y → rank y ≡ rank z → layers_cmp x y ≡ Less → layers_cmp y z ≡ Less → layers_cmp x z ≡ Less
level_chain (Value-F.Int a) (Value-F.Int b) (Value-F.Int c) k e f p q = int_cmp_total.trans a b c p q
level_chain (Value-F.Truth a) (Value-F.Truth b) (Value-F.Truth c) k e f p q = bool_cmp_total.trans a b c p q
level_chain (Value-F.Text a) (Value-F.Text b) (Value-F.Text c) k e f p q = nat_list_cmp_total.trans a b c p q
level_chain (Value-F.Elem a i) (Value-F.Elem b j) (Value-F.Elem c l) k e f p q =
    then_chain nat_cmp nat_cmp-IsAntisymmetric a b c (nat_cmp_total.trans a b c) _ _ _ (nat_cmp_total.trans i j l) p q
level_chain (Value-F.Pair a i) (Value-F.Pair b j) (Value-F.Pair c l) k e f p q =
    then_chain value_cmp value_same a b c (k.0 b c) _ _ _ (k.1 j l) p q
level_chain (Value-F.Set xs) (Value-F.Set ys) (Value-F.Set zs) k e f p q =
    slices xs zs ∙ lists_chain xs ys zs k (sym (slices xs ys) ∙ p) (sym (slices ys zs) ∙ q)
level_chain x y z k e f p q = absurd (omega arith)

rises : (x y : Value-F Value) → layers_cmp x y ≡ Less → rank x ≤ rank y
rises (Value-F.Int a) (Value-F.Int b) p = omega arith
rises (Value-F.Truth a) (Value-F.Truth b) p = omega arith
rises (Value-F.Text a) (Value-F.Text b) p = omega arith
rises (Value-F.Elem a i) (Value-F.Elem b j) p = omega arith
rises (Value-F.Pair a i) (Value-F.Pair b j) p = omega arith
rises (Value-F.Set a) (Value-F.Set b) p = omega arith
rises x (Value-F.Int a) p = absurd (cc)
rises x (Value-F.Truth a) p = first_of (omega arith, cc)
rises x (Value-F.Text a) p = first_of (omega arith, cc)
rises x (Value-F.Elem a i) p = first_of (omega arith, cc)
rises x (Value-F.Pair a b) p = first_of (omega arith, cc)
rises x (Value-F.Set a) p = omega arith

other_kind : (x y : Value-F Value) → rank x < rank y → layers_cmp x y ≡ nat_cmp (rank x) (rank y)
other_kind (Value-F.Int a) (Value-F.Int b) h = absurd (omega arith)
other_kind (Value-F.Truth a) (Value-F.Truth b) h = absurd (omega arith)
other_kind (Value-F.Text a) (Value-F.Text b) h = absurd (omega arith)
other_kind (Value-F.Elem a i) (Value-F.Elem b j) h = absurd (omega arith)
other_kind (Value-F.Pair a i) (Value-F.Pair b j) h = absurd (omega arith)
other_kind (Value-F.Set a) (Value-F.Set b) h = absurd (omega arith)
other_kind x y h = refl

apart : (x y : Value-F Value) → rank x < rank y → layers_cmp x y ≡ Less
apart x y h = other_kind x y h ∙ nat_below (rank x) (rank y) h

layer_chain : (x y z : Value-F Value) → Below Chains x → layers_cmp x y ≡ Less → layers_cmp y z ≡ Less → layers_cmp x z ≡ Less
layer_chain x y z k p q =
    elim (eq-or-lt_of_le (rises x y p)) [
      | inr l ↦ (let m = rises y z q in apart x z (omega arith))
      | inl e ↦ elim (eq-or-lt_of_le (rises y z q)) [ inr l ↦ apart x z (omega arith) | inl f ↦ level_chain x y z k e f p q ]
    ]

pub value_chain : (x y z : Value) → value_cmp x y ≡ Less → value_cmp y z ≡ Less → value_cmp x z ≡ Less
value_chain = by_layers Chains (λ x k y z p q. cmp_roll x z ∙ layer_chain x (out-Value y) (out-Value z) k (sym (cmp_roll x y) ∙ p) (sym (cmp_out y z) ∙ q))

pub value_total : IsTotalOrder value_cmp
value_total = record {
  antisymm = value_flip;
  trans = value_chain;
  congr = λ x y z e. ap (λ w. value_cmp w z) (value_same x y e);
}

-- ---- the order at two values of one kind

pub cmp-Int : (m n : ℤ) → value_cmp (Int m) (Int n) ≡ int_cmp m n
cmp-Int m n = cmp_out (Int m) (Int n) ∙ rw (outs-Int m, outs-Int n) refl

pub cmp-Truth : (p q : Bool) → value_cmp (Truth p) (Truth q) ≡ bool_cmp p q
cmp-Truth p q = cmp_out (Truth p) (Truth q) ∙ rw (outs-Truth p, outs-Truth q) refl

pub cmp-Text : (s t : List ℕ) → value_cmp (Text s) (Text t) ≡ slice_cmp nat_cmp s t
cmp-Text s t = cmp_out (Text s) (Text t) ∙ rw (outs-Text s, outs-Text t) refl

pub cmp-Elem : (s i t j : ℕ) → value_cmp (Elem s i) (Elem t j) ≡ ordering_then (nat_cmp s t) (nat_cmp i j)
cmp-Elem s i t j = cmp_out (Elem s i) (Elem t j) ∙ rw (outs-Elem s i, outs-Elem t j) refl

pub cmp-Pair : (a b c d : Value) → value_cmp (Pair a b) (Pair c d) ≡ ordering_then (value_cmp a c) (value_cmp b d)
cmp-Pair a b c d = cmp_out (Pair a b) (Pair c d) ∙ rw (outs-Pair a b, outs-Pair c d) refl

pub cmp-Set : (xs ys : List Value) → value_cmp (Set xs) (Set ys) ≡ slice_cmp value_cmp xs ys
cmp-Set xs ys = cmp_out (Set xs) (Set ys) ∙ rw (outs-Set xs, outs-Set ys) (slices xs ys)

-- ---- what `order_items` cites

shift : (a b x y : ℕ) → a + y ≡ b + x → nat_cmp a b ≡ nat_cmp x y
shift a b x y e = go (nat_cmp a b) (nat_cmp x y) (ranks a b) (ranks x y)
  where
    go : (r s : Ordering) → MatchOrdering r (a < b) (a ≡ b) (b < a) → MatchOrdering s (x < y) (x ≡ y) (y < x) → r ≡ s
    go Less Less h k = refl
    go Less Equal h k = absurd (omega arith)
    go Less Greater h k = absurd (omega arith)
    go Equal Less h k = absurd (omega arith)
    go Equal Equal h k = refl
    go Equal Greater h k = absurd (omega arith)
    go Greater Less h k = absurd (omega arith)
    go Greater Equal h k = absurd (omega arith)
    go Greater Greater h k = refl

one_empty : (xs ys : List Value) → (length xs ≡ 0) ⊎ (length ys ≡ 0) → slice_cmp value_cmp xs ys ≡ nat_cmp (length xs) (length ys)
one_empty [] [] h = refl
one_empty [] (y ∷ ys) h = sym (nat_below 0 (suc (length ys)) (omega arith))
one_empty (x ∷ xs) [] h = sym (nat_above (suc (length xs)) 0 (omega arith))
one_empty (x ∷ xs) (y ∷ ys) h = absurd (elim h [ inl e ↦ omega arith | inr e ↦ omega arith ])

-- where one of two rests is empty, the lengths decide
pub lengths_decide : (a b : ℕ) (xs ys : List Value) → a + length ys ≡ b + length xs → (length xs ≡ 0) ⊎ (length ys ≡ 0) → nat_cmp a b ≡ slice_cmp value_cmp xs ys
lengths_decide a b xs ys e h = shift a b (length xs) (length ys) e ∙ sym (one_empty xs ys h)
