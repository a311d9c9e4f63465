-- The steps of a merge at places in the two lists, and its end.
use Rattle.std.proofs.Common.{◌≡◌, ◌⊎◌, ◌<◌, ◌+◌, ◌-◌, ℕ, suc, List, [], ◌∷◌, ◌++◌, sym, ap, subst, take, drop, drop-cons, add-one, length, length-drop, get_or, append_assoc, arith}
use Rattle.std.proofs.lemmas.List.{take_all}
use Rattle.std.specs.declared.cmp.Ordering.TheVariants.{Less, Equal, Greater}
use Rattle.ascending.specs.Ascending.{set_of}
use Rattle.ascending.specs.MergeLaws.{IsMerging, take_left, take_right, take_both, merging_ends}
use Rattle.b_values.specs.OrderLaws.{value_total, value_same}
use Rattle.b_values.specs.Values.{value_cmp}
use Rattle.b_values.specs.declared.values.Value.{Value}

-- what is left from a place begins with the element there
pub rest_at : {X : Type 0} (xs : List X) (i : ℕ) (x : X) → i < length xs → x ≡ get_or xs i x → drop i xs ≡ x ∷ drop (i + 1) xs
rest_at xs i x h e = rw (add-one, drop-cons xs i x) (ap (λ y. y ∷ drop (suc i) xs) (sym e))

module _ (xs ys out more : List Value) (i j : ℕ) (x y w : Value) (below_i : i < length xs) (at_i : x ≡ get_or xs i x) (below_j : j < length ys) (at_j : y ≡ get_or ys j y)
    (before : IsMerging value_cmp xs ys out (drop i xs) (drop j ys)) (grown : more ≡ out ++ w ∷ []) where
  opened : IsMerging value_cmp xs ys out (x ∷ drop (i + 1) xs) (y ∷ drop (j + 1) ys)
  opened = subst (λ l. IsMerging value_cmp xs ys out l (y ∷ drop (j + 1) ys)) (rest_at xs i x below_i at_i) (subst (λ r. IsMerging value_cmp xs ys out (drop i xs) r) (rest_at ys j y below_j at_j) before)

  pub step_left : w ≡ x → value_cmp x y ≡ Less → IsMerging value_cmp xs ys more (drop (i + 1) xs) (drop j ys)
  step_left same e = rw (grown, same, rest_at ys j y below_j at_j) (take_left value_cmp value_total value_same xs ys out x y (drop (i + 1) xs) (drop (j + 1) ys) e opened)

  pub step_right : w ≡ y → value_cmp x y ≡ Greater → IsMerging value_cmp xs ys more (drop i xs) (drop (j + 1) ys)
  step_right same e = rw (grown, same, rest_at xs i x below_i at_i) (take_right value_cmp value_total value_same xs ys out x y (drop (i + 1) xs) (drop (j + 1) ys) e opened)

  pub step_both : w ≡ x → value_cmp x y ≡ Equal → IsMerging value_cmp xs ys more (drop (i + 1) xs) (drop (j + 1) ys)
  step_both same e = rw (grown, same) (take_both value_cmp value_total value_same xs ys out x y (drop (i + 1) xs) (drop (j + 1) ys) e opened)

-- the slice from a place to the end
rest_whole : (xs : List Value) (i : ℕ) → take (length xs - i) (drop i xs) ≡ drop i xs
rest_whole xs i = take_all (length xs - i) (drop i xs) (omega (arith, length-drop i xs))

pub finish : (xs ys out first second : List Value) (i j : ℕ) → IsMerging value_cmp xs ys out (drop i xs) (drop j ys) → (drop i xs ≡ []) ⊎ (drop j ys ≡ [])
    → first ≡ out ++ take (length xs - i) (drop i xs) → second ≡ first ++ take (length ys - j) (drop j ys) → second ≡ set_of value_cmp (xs ++ ys)
finish xs ys out first second i j m e f g = rw (g, f, rest_whole xs i, rest_whole ys j, append_assoc) (merging_ends value_cmp value_total value_same xs ys out (drop i xs) (drop j ys) m e)
