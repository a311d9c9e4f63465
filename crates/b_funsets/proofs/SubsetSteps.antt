-- The steps of the loops that build subsets and couples.
use Rattle.std.proofs.Common.{◌≡◌, ℕ, ◌+◌, ◌<◌, ◌≤◌, List, [], ◌∷◌, ◌++◌, map, length, get_or, take, drop, drop-cons, suc, arith, refl, sym, ap, ap₂, ◌∙◌, append-nil}
use Rattle.std.proofs.lemmas.List.{take_more, map-append}
use Rattle.std.proofs.lemmas.List.Concat.{flat_map-append}
use Rattle.b_values.specs.Values.{elements}
use Rattle.b_values.specs.ValueLaws.{elements-Set}
use Rattle.b_values.specs.declared.values.Value.{Value}
use Rattle.b_values.specs.declared.values.Value.TheVariants.{Pair, Set}
use Rattle.b_funsets.specs.Families.{nonempty_sublists, sublists, couples}

-- sets that begin with x, from the lists of the others
firsts : (x : Value) (rs : List (List Value)) → map (λ v. Set (x ∷ elements v)) (map Set rs) ≡ map Set (map (λ r. x ∷ r) rs)
firsts x [] = refl
firsts x (r ∷ rs) = ap₂ (λ (q : List Value) zs. Set (x ∷ q) ∷ zs) (elements-Set r) (firsts x rs)

-- one more element in front
pub subsets_step : (xs old new : List Value) (k i : ℕ) (x : Value) → k + 1 ≡ i → i ≤ length xs → x ≡ get_or xs k x
    → old ≡ map Set (nonempty_sublists (drop i xs))
    → new ≡ map (λ v. Set (x ∷ elements v)) (Set [] ∷ old) ++ old
    → new ≡ map Set (nonempty_sublists (drop k xs))
subsets_step xs old new k i x j l e was is =
    let next : suc k ≡ i = omega arith in
    let rest : drop k xs ≡ x ∷ drop i xs = drop-cons xs k x (omega arith) ∙ ap₂ (λ y n. y ∷ drop n xs) (sym e) next in
    is ∙ ap (λ zs. map (λ v. Set (x ∷ elements v)) (Set [] ∷ zs) ++ zs) was
    ∙ ap (λ zs. zs ++ map Set (nonempty_sublists (drop i xs))) (firsts x (sublists (drop i xs)))
    ∙ sym (map-append Set (map (λ r. x ∷ r) (sublists (drop i xs))) (nonempty_sublists (drop i xs)))
    ∙ ap (λ ys. map Set (nonempty_sublists ys)) (sym rest)

one_more_row : (s t : List Value) (x : Value) → couples (s ++ x ∷ []) t ≡ couples s t ++ map (λ y. Pair x y) t
one_more_row s t x = flat_map-append (λ w. map (λ y. Pair w y) t) s (x ∷ []) ∙ ap (λ zs. couples s t ++ zs) (append-nil (map (λ y. Pair x y) t))

-- the couples of one more element
pub couples_step : (s t old new : List Value) (i : ℕ) (x : Value) → i < length s → x ≡ get_or s i x
    → old ≡ couples (take i s) t → new ≡ old ++ map (λ y. Pair x y) t → new ≡ couples (take (i + 1) s) t
couples_step s t old new i x l e was is =
    is ∙ ap (λ zs. zs ++ map (λ y. Pair x y) t) was ∙ sym (one_more_row (take i s) t x)
    ∙ ap (λ (zs : List Value). couples zs t) (ap (λ (y : Value). take i s ++ y ∷ []) e ∙ sym (take_more s i x l))
