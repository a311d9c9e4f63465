-- Names of lists mean parts that are there.
use Rattle.std.proofs.Common.{◌≡◌, ◌≤◌, ◌<◌, ◌+◌, ℕ, List, [], ◌∷◌, ◌++◌, length, length-append, arith, refl, bytes_eq}
use Rattle.std.specs.Prelude.{zero, suc}
use Rattle.std.specs.List.{AllByRecursion}
use Rattle.type_formulas.proofs.Ranges.{Bounded, first_or_later}
use Rattle.type_names.specs.declared.listing.Named.{Named}
use Rattle.type_names.specs.Names.{scope_named, in_order, alike}
use Rattle.b_types.specs.Known.{set_at, element_at, first_sets, first_elements, known_sets}

-- each name means a part below c
abbrev pub AreBelow : ℕ → List Named → Type 0
AreBelow c = AllByRecursion (λ (k : Named). k.part < c)

pub below_both : (c : ℕ) (ks ls : List Named) → AreBelow c ks → AreBelow c ls → AreBelow c (ks ++ ls)
below_both c [] ls h k = k
below_both c (x ∷ ks) ls h k = (h.0, below_both c ks ls h.1 k)

pub in_order_below : (c p : ℕ) (xs : List (List ℕ)) → p + length xs ≤ c → AreBelow c (in_order p xs)
in_order_below c p [] h = tt
in_order_below c p (x ∷ xs) h = (omega arith, in_order_below c (p + 1) xs (omega arith))

pub alike_below : (c p : ℕ) (xs : List (List ℕ)) → p < c → AreBelow c (alike p xs)
alike_below c p [] h = tt
alike_below c p (x ∷ xs) h = (h, alike_below c p xs h)

pub named_bounded : (c : ℕ) (ks : List Named) → AreBelow c ks → Bounded c (scope_named ks)
named_bounded c [] h = record { bounded = λ x m e. absurd cc }
named_bounded c (k ∷ ks) h = record { bounded = λ x m e. first_or_later c k.part (scope_named ks x) m h.0 ((named_bounded c ks h.1).bounded x m) (bytes_eq x k.name) e }

-- ---- lengths

length_sets : (n : ℕ) → length (first_sets n) ≡ n
length_sets zero = refl
length_sets (suc n) = let a = length-append (first_sets n) (set_at n ∷ []) in let b = length_sets n in omega arith

length_elements : (n : ℕ) → length (first_elements n) ≡ n
length_elements zero = refl
length_elements (suc n) = let a = length-append (first_elements n) (element_at n ∷ []) in let b = length_elements n in omega arith

pub length_known : (n : ℕ) → length (known_sets n) ≡ n + n
length_known n = let a = length-append (first_sets n) (first_elements n) in let b = length_sets n in let c = length_elements n in omega arith
