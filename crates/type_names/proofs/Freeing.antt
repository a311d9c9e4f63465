-- Names that aren't hidden, one by one.
use Rattle.std.proofs.Common.{◌≡◌, ℕ, ◌≤◌, ◌<◌, ◌+◌, Bool, true, false, not, cond, List, [], ◌∷◌, ◌++◌, map, append_assoc, zero, suc, arith, sym, refl, ap, ◌∙◌}
use Rattle.set_elements.specs.Sizes.{element_of, elements_from}
use Rattle.type_names.specs.declared.listing.Named.{Named}
use Rattle.type_names.specs.Names.{meaning, alike, is_among, free}

free_first : (hidden : List (List ℕ)) (p : ℕ) (x : List ℕ) (xs : List (List ℕ)) → alike p (free hidden (x ∷ [])) ++ alike p (free hidden xs) ≡ alike p (free hidden (x ∷ xs))
free_first hidden p x xs = cases (not (is_among hidden x))
  where
    cases : (b : Bool) → alike p (cond b (x ∷ []) []) ++ alike p (free hidden xs) ≡ alike p (cond b (x ∷ free hidden xs) (free hidden xs))
    cases true = refl
    cases false = refl

pub free_more : (hidden : List (List ℕ)) (p : ℕ) (x : List ℕ) (xs : List (List ℕ)) (before after : List Named) → after ≡ before ++ alike p (free hidden (x ∷ [])) → after ++ alike p (free hidden xs) ≡ before ++ alike p (free hidden (x ∷ xs))
free_more hidden p x xs before after e =
    ap (λ l. l ++ alike p (free hidden xs)) e ∙ append_assoc before (alike p (free hidden (x ∷ []))) (alike p (free hidden xs)) ∙ ap (λ l. before ++ l) (free_first hidden p x xs)

-- the elements up to i are listed
pub record IsFreeing (hidden : List (List ℕ)) (set : List ℕ) (p count i : ℕ) (old now : List Named) : Type 0 where
  pub left : ℕ
  pub sum : i + left ≡ count
  pub told : now ++ alike p (free hidden (elements_from set (i + 1) left)) ≡ old ++ alike p (free hidden (elements_from set 1 count))

pub freeing_none : (hidden : List (List ℕ)) (set : List ℕ) (p count : ℕ) (old : List Named) → IsFreeing hidden set p count 0 old old
freeing_none hidden set p count old = record { left = count; sum = omega arith; told = refl }

one_left : (hidden : List (List ℕ)) (set : List ℕ) (p count i left : ℕ) (old now new : List Named) → i < count → i + left ≡ count
    → now ++ alike p (free hidden (elements_from set (i + 1) left)) ≡ old ++ alike p (free hidden (elements_from set 1 count))
    → new ≡ now ++ alike p (free hidden (element_of set (i + 1) ∷ [])) → IsFreeing hidden set p count (i + 1) old new
one_left hidden set p count i zero old now new h s t e = absurd (omega arith)
one_left hidden set p count i (suc left) old now new h s t e =
    record { left = left; sum = omega arith; told = free_more hidden p (element_of set (i + 1)) (elements_from set (i + 1 + 1) left) now new e ∙ t }

pub freeing_one : (hidden : List (List ℕ)) (set : List ℕ) (p count i : ℕ) (old now new : List Named) → i < count → IsFreeing hidden set p count i old now
    → new ≡ now ++ alike p (free hidden (element_of set (i + 1) ∷ [])) → IsFreeing hidden set p count (i + 1) old new
freeing_one hidden set p count i old now new h g e = one_left hidden set p count i g.left old now new h g.sum g.told e

none_left : (hidden : List (List ℕ)) (set : List ℕ) (p i left : ℕ) (now : List Named) → left ≡ 0 → now ++ alike p (free hidden (elements_from set (i + 1) left)) ≡ now
none_left hidden set p i zero now e = Rattle.std.proofs.lemmas.List.append-nil now
none_left hidden set p i (suc left) now e = absurd (omega arith)

pub freeing_all : (hidden : List (List ℕ)) (set : List ℕ) (p count i : ℕ) (old now : List Named) → count ≤ i → IsFreeing hidden set p count i old now → now ≡ old ++ alike p (free hidden (elements_from set 1 count))
freeing_all hidden set p count i old now h g = let s = g.sum in sym (none_left hidden set p i g.left now (omega arith)) ∙ g.told
