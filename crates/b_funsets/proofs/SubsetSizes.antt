-- How many sublists a list has, and how many nodes the sets of them.
use Rattle.std.proofs.Common.{◌≡◌, ℕ, ◌+◌, ◌*◌, ◌^◌, ◌≤◌, List, [], ◌∷◌, ◌++◌, map, length, sum, arith, refl, sym, ap, ap₂, ◌∙◌, length-append}
use Rattle.std.proofs.lemmas.List.{length-map}
use Rattle.std.proofs.Math.Nat.{pow-suc}
use Rattle.b_values.specs.declared.values.Value.{out-Value, map-Value}
use Rattle.b_values.specs.declared.values.Value.TheOpen.{Value-F}
use Rattle.b_values.specs.Values.{node_count, count_layer}
use Rattle.b_values.specs.SizeLaws.{count_at, count-Set}
use Rattle.b_values.specs.declared.values.Value.{Value}
use Rattle.b_values.specs.declared.values.Value.TheVariants.{Set}
use Rattle.set_making.specs.Sums.{map_cons_sum, map_append_sum}
use Rattle.b_funsets.specs.Families.{nonempty_sublists, sublists}

-- the nodes of values together
abbrev pub total : List Value → ℕ
total xs = sum (map node_count xs)

layer_positive : (x : Value-F ℕ) → 1 ≤ count_layer x
layer_positive (Value-F.Int n) = omega arith
layer_positive (Value-F.Truth b) = omega arith
layer_positive (Value-F.Text s) = omega arith
layer_positive (Value-F.Elem s i) = omega arith
layer_positive (Value-F.Pair m n) = omega arith
layer_positive (Value-F.Set ns) = omega arith

-- each value has a node
pub node_positive : (v : Value) → 1 ≤ node_count v
node_positive v = rw (count_at v (out-Value v) refl) (layer_positive (map-Value Value ℕ node_count (out-Value v)))

-- a list of n elements has 2^n sublists
pub length-sublists : {K : Type 0} (xs : List K) → length (sublists xs) ≡ 2 ^ length xs
length-sublists [] = refl
length-sublists (x ∷ xs) =
    omega (arith, length-sublists xs, length-append (map (λ r. x ∷ r) (sublists xs)) (nonempty_sublists xs), length-map (sublists xs) (λ r. x ∷ r), pow-suc 2 (length xs))

pub count_with_first : (x : Value) (r : List Value) → node_count (Set (x ∷ r)) ≡ node_count x + node_count (Set r)
count_with_first x r = omega (arith, count-Set (x ∷ r), count-Set r, map_cons_sum node_count x r)

total_with_first : (x : Value) (rs : List (List Value)) → total (map Set (map (λ r. x ∷ r) rs)) ≡ node_count x * length rs + total (map Set rs)
total_with_first x [] = omega arith
total_with_first x (r ∷ rs) =
    omega (arith, total_with_first x rs, count_with_first x r, map_cons_sum node_count (Set r) (map Set rs), map_cons_sum node_count (Set (x ∷ r)) (map Set (map (λ q. x ∷ q) rs)))

pub map_append_sets : (qs rs : List (List Value)) → map Set (qs ++ rs) ≡ map Set qs ++ map Set rs
map_append_sets [] rs = refl
map_append_sets (q ∷ qs) rs = ap (λ zs. Set q ∷ zs) (map_append_sets qs rs)

-- the nodes of the sets of all sublists: 2^n sets, and each element in half of them
pub subsets_total : (xs : List Value) → 2 * (1 + total (map Set (nonempty_sublists xs))) ≡ 2 ^ length xs * (2 + total xs)
subsets_total [] = refl
subsets_total (x ∷ xs) = doubled (2 ^ length xs) (node_count x) (total xs) _ _ _ (subsets_total xs)
    (ap total (map_append_sets (map (λ r. x ∷ r) (sublists xs)) (nonempty_sublists xs))
    ∙ map_append_sum node_count (map Set (map (λ r. x ∷ r) (sublists xs))) (map Set (nonempty_sublists xs))
    ∙ ap (λ n. n + total (map Set (nonempty_sublists xs))) (total_with_first x (sublists xs) ∙ ap (λ n. node_count x * n + total (map Set (sublists xs))) (length-sublists xs)))
    (map_cons_sum node_count (Set []) (map Set (nonempty_sublists xs)) ∙ ap (λ n. n + total (map Set (nonempty_sublists xs))) (count-Set []))
    ∙ ap₂ (λ p n. p * (2 + n)) (sym (pow-suc 2 (length xs))) (sym (map_cons_sum node_count x xs))
  where
    doubled : (p f n v w more : ℕ) → 2 * (1 + v) ≡ p * (2 + n) → more ≡ f * p + w + v → w ≡ 1 + v → 2 * (1 + more) ≡ (p * 2) * (2 + (f + n))
    doubled p f n v w more e g h = omega arith
