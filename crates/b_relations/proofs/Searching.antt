-- Couples with one first part stand together, and two binary searches find them.
use Rattle.std.proofs.Common.{◌≡◌, ◌⊎◌, ◌<◌, ◌≤◌, ◌+◌, ◌-◌, ℕ, zero, suc, Bool, true, false, not, cond, List, [], ◌∷◌, map, length, get_or, take, drop, Option, Some, None, arith, refl, sym, ap, ◌∙◌, subst, inl, inr}
use Rattle.std.specs.List.{filter, cons_option}
use Rattle.std.specs.List.Sorted.{IsPartitionedBy, IsPartitionPoint}
use Rattle.std.proofs.lemmas.List.{take_all}
use Rattle.std.specs.declared.cmp.Ordering.{Ordering}
use Rattle.std.specs.declared.cmp.Ordering.TheVariants.{Less, Equal, Greater}
use Rattle.std.specs.Ordering.{is_lt, is_eq, is_gt, ordering_then}
use Rattle.std.proofs.lemmas.Bool.{cases_lt}
use Rattle.ascending.specs.Ascending.{IsAscending}
use Rattle.ascending.specs.Members.{all_in, in_at}
use Rattle.ascending.specs.AscendingLaws.{ascending_head, ascending_tail}
use Rattle.b_values.specs.OrderLaws.{layers_cmp, cmp_out, value_same, value_chain}
use Rattle.b_values.specs.Values.{value_cmp, same_value}
use Rattle.b_values.specs.declared.values.Value.{Value, out-Value}
use Rattle.b_values.specs.declared.values.Value.TheOpen.{Value-F}
use Rattle.b_relations.specs.CoupleLaws.{couple_of_parts}
use Rattle.b_relations.specs.Parts.{first_cmp, begins_with, passes, passes_parts}
use Rattle.b_relations.specs.Relations.{parts, parts_of, couple, couples_in}

-- ---- what is lower begins no later

then_less : (r s : Ordering) → ordering_then r s ≡ Less → (r ≡ Less) ⊎ (r ≡ Equal)
then_less Less s e = inl refl
then_less Equal s e = inr refl
then_less Greater s e = cc

pair_low : (a b c d x : Value) → ordering_then (value_cmp a c) (value_cmp b d) ≡ Less → (r : Ordering) → value_cmp c x ≡ r → (r ≡ Less → value_cmp a x ≡ Less) × (r ≡ Equal → is_gt (value_cmp a x) ≡ false)
pair_low a b c d x e r f = elim (then_less (value_cmp a c) (value_cmp b d) e) [
  | inl l ↦ (
    λ g. value_chain a c x l (f ∙ g),
    λ g. let same = value_same c x (f ∙ g) in ap is_gt (subst (λ w. value_cmp a w ≡ Less) same l),
  )
  | inr q ↦ (let same = value_same a c q in (
    λ g. subst (λ w. value_cmp w x ≡ Less) (sym same) (f ∙ g),
    λ g. ap is_gt (subst (λ w. value_cmp w x ≡ Equal) (sym same) (f ∙ g)),
  ))
]

is_less : (r : Ordering) → is_lt r ≡ true → r ≡ Less
is_less Less e = refl
is_less Equal e = cc
is_less Greater e = cc

not_greater : (r : Ordering) → not (is_gt r) ≡ true → (r ≡ Less) ⊎ (r ≡ Equal)
not_greater Less e = inl refl
not_greater Equal e = inr refl
not_greater Greater e = cc

low_layer : (y z : Value-F Value) (x : Value) → layers_cmp y z ≡ Less → is_lt (first_cmp z x) ≡ true → is_lt (first_cmp y x) ≡ true
low_layer (Value-F.Int n) z x e h = refl
low_layer (Value-F.Truth b) z x e h = refl
low_layer (Value-F.Text s) z x e h = refl
low_layer (Value-F.Elem s i) z x e h = refl
low_layer (Value-F.Pair a b) (Value-F.Pair c d) x e h = ap is_lt ((pair_low a b c d x e (value_cmp c x) refl).0 (is_less (value_cmp c x) h))
low_layer (Value-F.Pair a b) (Value-F.Set ys) x e h = cc
low_layer (Value-F.Pair a b) z x e h = cc
low_layer (Value-F.Set ys) (Value-F.Set zs) x e h = cc
low_layer (Value-F.Set ys) z x e h = cc

high_layer : (y z : Value-F Value) (x : Value) → layers_cmp y z ≡ Less → not (is_gt (first_cmp z x)) ≡ true → not (is_gt (first_cmp y x)) ≡ true
high_layer (Value-F.Int n) z x e h = refl
high_layer (Value-F.Truth b) z x e h = refl
high_layer (Value-F.Text s) z x e h = refl
high_layer (Value-F.Elem s i) z x e h = refl
high_layer (Value-F.Pair a b) (Value-F.Pair c d) x e h =
    let p = pair_low a b c d x e (value_cmp c x) refl in
    elim (not_greater (value_cmp c x) h) [
      | inl l ↦ ap (λ r. not (is_gt r)) (p.0 l)
      | inr q ↦ ap not (p.1 q)
    ]
high_layer (Value-F.Pair a b) (Value-F.Set ys) x e h = cc
high_layer (Value-F.Pair a b) z x e h = cc
high_layer (Value-F.Set ys) (Value-F.Set zs) x e h = cc
high_layer (Value-F.Set ys) z x e h = cc

-- before the couples of x
abbrev pub is_before : Value → Value → Bool
is_before x m = is_lt (first_cmp (out-Value m) x)

-- before or among the couples of x
abbrev pub not_after : Value → Value → Bool
not_after x m = not (is_gt (first_cmp (out-Value m) x))

-- ---- ascending lists and tests that hold below

ascending_at : (xs : List Value) → IsAscending value_cmp xs → (i j : ℕ) (d : Value) → i < j → j < length xs → value_cmp (get_or xs i d) (get_or xs j d) ≡ Less
ascending_at [] a i j d l h = absurd (omega arith)
ascending_at (x ∷ xs) a zero zero d l h = absurd (omega arith)
ascending_at (x ∷ xs) a zero (suc j) d l h = all_in (λ w. value_cmp x w ≡ Less) xs (ascending_head value_cmp x xs a) (get_or xs j d) (in_at xs j d (omega arith))
ascending_at (x ∷ xs) a (suc i) zero d l h = absurd (omega arith)
ascending_at (x ∷ xs) a (suc i) (suc j) d l h = ascending_at xs (ascending_tail value_cmp x xs a) i j d (omega arith) (omega arith)

partitioned : (t : Value → Bool) → ((y z : Value) → value_cmp y z ≡ Less → t z ≡ true → t y ≡ true) → (xs : List Value) → IsAscending value_cmp xs → IsPartitionedBy t xs
partitioned t below xs a i j d l h e = elim (cases_lt i j) [
  | inl k ↦ below (get_or xs i d) (get_or xs j d) (ascending_at xs a i j d k h) e
  | inr k ↦ (let same : j ≡ i = omega arith in subst (λ n. t (get_or xs n d) ≡ true) same e)
]

pub before_partitions : (x : Value) (xs : List Value) → IsAscending value_cmp xs → IsPartitionedBy (is_before x) xs
before_partitions x = partitioned (is_before x) (λ y z e h. low_layer (out-Value y) (out-Value z) x (sym (cmp_out y z) ∙ e) h)

pub not_after_partitions : (x : Value) (xs : List Value) → IsAscending value_cmp xs → IsPartitionedBy (not_after x) xs
not_after_partitions x = partitioned (not_after x) (λ y z e h. high_layer (out-Value y) (out-Value z) x (sym (cmp_out y z) ∙ e) h)

pub ascending_drop : (n : ℕ) (xs : List Value) → IsAscending value_cmp xs → IsAscending value_cmp (drop n xs)
ascending_drop zero xs a = a
ascending_drop (suc n) [] a = a
ascending_drop (suc n) (x ∷ xs) a = ascending_drop n xs (ascending_tail value_cmp x xs a)

-- ---- a filter of a list that falls into parts

skip_false : (t : Value → Bool) (xs : List Value) (low : ℕ) → ((k : ℕ) (d : Value) → k < low → t (get_or xs k d) ≡ false) → filter t xs ≡ filter t (drop low xs)
skip_false t [] zero h = refl
skip_false t [] (suc low) h = refl
skip_false t (x ∷ xs) zero h = refl
skip_false t (x ∷ xs) (suc low) h = ap (λ b. cond b (x ∷ filter t xs) (filter t xs)) (h 0 x (omega arith)) ∙ skip_false t xs low (λ k d l. h (suc k) d (omega arith))

none_pass : (t : Value → Bool) (xs : List Value) → ((k : ℕ) (d : Value) → k < length xs → t (get_or xs k d) ≡ false) → filter t xs ≡ []
none_pass t [] h = refl
none_pass t (x ∷ xs) h = ap (λ b. cond b (x ∷ filter t xs) (filter t xs)) (h 0 x (omega arith)) ∙ none_pass t xs (λ k d l. h (suc k) d (omega arith))

keep_true : (t : Value → Bool) (xs : List Value) (count : ℕ) → ((k : ℕ) (d : Value) → k < count → k < length xs → t (get_or xs k d) ≡ true) → ((k : ℕ) (d : Value) → count ≤ k → k < length xs → t (get_or xs k d) ≡ false) → filter t xs ≡ take count xs
keep_true t [] zero h g = refl
keep_true t [] (suc count) h g = refl
keep_true t (x ∷ xs) zero h g = none_pass t (x ∷ xs) (λ k d l. g k d (omega arith) l)
keep_true t (x ∷ xs) (suc count) h g =
    ap (λ b. cond b (x ∷ filter t xs) (filter t xs)) (h 0 x (omega arith) (omega arith))
    ∙ ap (λ more. x ∷ more) (keep_true t xs count (λ k d l m. h (suc k) d (omega arith) (omega arith)) (λ k d l m. g (suc k) d (omega arith) (omega arith)))

at_drop : (xs : List Value) (low k : ℕ) (d : Value) → get_or (drop low xs) k d ≡ get_or xs (low + k) d
at_drop xs zero k d = ap (λ n. get_or xs n d) (omega arith)
at_drop [] (suc low) k d = refl
at_drop (x ∷ xs) (suc low) k d = at_drop xs low k d ∙ ap (λ n. get_or (x ∷ xs) n d) (let e : suc (low + k) ≡ suc low + k = omega arith in e)

drop_length : (xs : List Value) (low : ℕ) → length (drop low xs) ≡ length xs - low
drop_length xs zero = omega arith
drop_length [] (suc low) = omega arith
drop_length (x ∷ xs) (suc low) = omega (arith, drop_length xs low)

neither : (r : Ordering) → is_lt r ≡ false → not (is_gt r) ≡ true → is_eq r ≡ true
neither Less e f = cc
neither Equal e f = refl
neither Greater e f = cc

after : (r : Ordering) → not (is_gt r) ≡ false → is_eq r ≡ false
after Less e = cc
after Equal e = cc
after Greater e = refl

before : (r : Ordering) → is_lt r ≡ true → is_eq r ≡ false
before Less e = refl
before Equal e = cc
before Greater e = cc

-- the couples of x are what two partitions leave between them
pub couples_between : (x : Value) (xs : List Value) (low count : ℕ) → low ≤ length xs
    → ((k : ℕ) (d : Value) → k < low → is_before x (get_or xs k d) ≡ true) → ((k : ℕ) (d : Value) → low ≤ k → k < length xs → is_before x (get_or xs k d) ≡ false)
    → ((k : ℕ) (d : Value) → k < count → not_after x (get_or (drop low xs) k d) ≡ true) → ((k : ℕ) (d : Value) → count ≤ k → k < length (drop low xs) → not_after x (get_or (drop low xs) k d) ≡ false)
    → take count (drop low xs) ≡ filter (begins_with x) xs
couples_between x xs low count within b1 b2 a1 a2 =
    sym (skip_false (begins_with x) xs low (λ k d l. before _ (b1 k d l))
    ∙ keep_true (begins_with x) (drop low xs) count
    (λ k d l m. neither _ (rw (at_drop xs low k d) (b2 (low + k) d (omega arith) (omega (arith, drop_length xs low)))) (a1 k d l))
    (λ k d l m. after _ (a2 k d l m)))

-- ---- members that are couples, and their parts

pub of_cond : (b : Bool) (f : List Value → List (Value × Value)) (xs ys : List Value) → f (cond b xs ys) ≡ cond b (f xs) (f ys)
of_cond true f xs ys = refl
of_cond false f xs ys = refl

group_step : (x : Value) (y : Value-F Value) (from more : List (Value × Value)) → from ≡ filter (λ p. same_value p.0 x) more
    → cond (is_eq (first_cmp y x)) (cons_option (parts_of y) from) from ≡ filter (λ p. same_value p.0 x) (cons_option (parts_of y) more)
group_step x (Value-F.Int n) from more e = e
group_step x (Value-F.Truth b) from more e = e
group_step x (Value-F.Text s) from more e = e
group_step x (Value-F.Elem s i) from more e = e
group_step x (Value-F.Pair a b) from more e = ap (λ l. cond (is_eq (value_cmp a x)) ((a, b) ∷ l) l) e
group_step x (Value-F.Set xs) from more e = e

-- the parts of the couples of x
pub group_parts : (x : Value) (xs : List Value) → couples_in (filter (begins_with x) xs) ≡ filter (λ p. same_value p.0 x) (couples_in xs)
group_parts x [] = refl
group_parts x (m ∷ xs) =
    of_cond (begins_with x m) couples_in (m ∷ filter (begins_with x) xs) (filter (begins_with x) xs)
    ∙ group_step x (out-Value m) (couples_in (filter (begins_with x) xs)) (couples_in xs) (group_parts x xs)

chosen_step : (t : Value × Value → Bool) (m : Value) (o : Option (Value × Value)) → parts m ≡ o → (xs : List Value) (ps : List (Value × Value)) → xs ≡ map couple (filter t ps)
    → cond (passes_parts t o) (m ∷ xs) xs ≡ map couple (filter t (cons_option o ps))
chosen_step t m None e xs ps f = f
chosen_step t m (Some p) e xs ps f = go (t p)
  where
    go : (b : Bool) → cond b (m ∷ xs) xs ≡ map couple (cond b (p ∷ filter t ps) (filter t ps))
    go true = let same = couple_of_parts m p e in cc
    go false = f

-- the couples that pass a test, as values and as parts
pub chosen_parts : (t : Value × Value → Bool) (xs : List Value) → filter (passes t) xs ≡ map couple (filter t (couples_in xs))
chosen_parts t [] = refl
chosen_parts t (m ∷ xs) = chosen_step t m (parts m) refl (filter (passes t) xs) (couples_in xs) (chosen_parts t xs)

-- the slice from a place to the end
rest_whole : (xs : List Value) (low : ℕ) → take (length xs - low) (drop low xs) ≡ drop low xs
rest_whole xs low = take_all (length xs - low) (drop low xs) (omega (arith, drop_length xs low))

pub rest_ascends : (xs : List Value) (low : ℕ) → IsAscending value_cmp xs → IsAscending value_cmp (take (length xs - low) (drop low xs))
rest_ascends xs low a = subst (IsAscending value_cmp) (sym (rest_whole xs low)) (ascending_drop low xs a)

-- the same of two partition points, the second in the rest from the first
pub couples_found : (x : Value) (xs : List Value) (low count : ℕ) → low ≤ length xs
    → IsPartitionPoint (λ m. is_before x m ≡ true) (λ m. is_before x m ≡ false) xs low
    → IsPartitionPoint (λ m. not_after x m ≡ true) (λ m. not_after x m ≡ false) (take (length xs - low) (drop low xs)) count
    → take count (take (length xs - low) (drop low xs)) ≡ filter (begins_with x) xs
couples_found x xs low count within first second =
    let e = rest_whole xs low in
    let rest : IsPartitionPoint (λ m. not_after x m ≡ true) (λ m. not_after x m ≡ false) (drop low xs) count =
    subst (λ l. IsPartitionPoint (λ m. not_after x m ≡ true) (λ m. not_after x m ≡ false) l count) e second in
    ap (take count) e
    ∙ couples_between x xs low count within (λ k d l. first.0 k d (omega arith) l) (λ k d l m. first.1 k d l m) (λ k d l. rest.0 k d (omega arith) l) (λ k d l m. rest.1 k d l m)
