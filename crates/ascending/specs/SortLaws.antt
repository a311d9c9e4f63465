-- What a sort without doubles gives, and what a binary search in an ascending list says.
use Rattle.std.proofs.Common.{◌≡◌, ◌↔◌, ◌<◌, ◌≤◌, ◌+◌, ℕ, zero, suc, Bool, true, false, List, [], ◌∷◌, length, get_or, arith, refl, sym, ap, ◌∙◌, subst, inl, inr, add-one, Result, Ok, Err}
use Rattle.std.specs.Prelude.{is_ok, IsTrue}
use Rattle.std.specs.declared.cmp.Ordering.{Ordering}
use Rattle.std.specs.declared.cmp.Ordering.TheVariants.{Less, Equal, Greater}
use Rattle.std.specs.Ordering.{is_lt, eq_by_cmp}
use Rattle.std.specs.Cmp.{IsTotalOrder, IsEquivalence, Equal-is, tied_itself, eq_by_cmp_equiv}
use Rattle.std.specs.FinSet.{IsAntisymmetric}
use Rattle.std.specs.List.{dedup}
use Rattle.std.specs.List.Sorted.{IsPermutation, IsSorted, IsSearchInRange, IsBinarySearchResult}
use Rattle.std.proofs.lemmas.List.Sorted.{searchable_from_sorted}
use Rattle.std.proofs.lemmas.List.Kept.{IsStrictlySortedBy-dedup, Contains-dedup, Contains-from_dedup}
use Rattle.std.proofs.lemmas.Bool.{cases_lt}
use Rattle.ascending.specs.Ascending.{In, IsAscending, set_of}
use Rattle.ascending.specs.Members.{in_at, in_from_contains, contains_from_in, in_permutation}
use Rattle.ascending.specs.AscendingLaws.{ascending_head, ascending_tail, above_from_below, is_set_of}

module _ {K : Type 0} (R : K → K → Ordering) (o : IsTotalOrder R) where
  -- neighbours of an ascending list don't fall
  neighbours : (xs : List K) → IsAscending R xs → (k : ℕ) (d : K) → k + 1 < length xs → is_lt (R (get_or xs (k + 1) d) (get_or xs k d)) ≡ false
  neighbours [] a k d h = absurd (omega arith)
  neighbours (x ∷ []) a k d h = absurd (omega arith)
  neighbours (x ∷ y ∷ ys) a zero d h = ap is_lt (above_from_below R o x y (ascending_head R x (y ∷ ys) a).0)
  neighbours (x ∷ y ∷ ys) a (suc k) d h = rw add-one (rw add-one at (neighbours (y ∷ ys) (ascending_tail R x (y ∷ ys) a) k d (omega arith)))

  -- an ascending list is sorted in std's word
  pub sorted_from_ascending : (xs : List K) → IsAscending R xs → IsSorted R xs
  sorted_from_ascending xs a = λ k d l h. neighbours xs a k d h

module _ {K : Type 0} (R : K → K → Ordering) (o : IsTotalOrder R) (one : IsAntisymmetric R) where
  -- a list in order, its doubles taken out, is the set
  pub set_of_sorted : (E : K → K → Bool) (ties : (x y : K) → E x y ≡ eq_by_cmp R x y) (xs ys : List K) → IsPermutation xs ys → IsSorted R ys → dedup E ys ≡ set_of R xs
  set_of_sorted E ties xs ys p s = is_set_of R o one xs (dedup E ys) (IsStrictlySortedBy-dedup o ties ys s) (λ z. (
    λ h. (in_permutation xs ys z p).1 (in_from_contains ys z (Contains-from_dedup E ys z (contains_from_in (dedup E ys) z h))),
    λ h. in_from_contains (dedup E ys) z (Contains-dedup alike same ys z (contains_from_in ys z ((in_permutation xs ys z p).0 h))),
  ))
    where
      alike : IsEquivalence E
      alike = subst IsEquivalence (λ i x y. sym (ties x y) i) (eq_by_cmp_equiv o)

      same : (x y : K) → E x y ≡ true → x ≡ y
      same x y e = one x y ((Equal-is (R x y)).0 (sym (ties x y) ∙ e))

  -- a place where the order answers `Equal` has the element
  found : (xs : List K) (x : K) (i : ℕ) → i < length xs → ((d : K) → R (get_or xs i d) x ≡ Equal) → In x xs
  found xs x i h e = subst (λ w. In w xs) (one (get_or xs i x) x (e x)) (in_at xs i x h)

  -- the element stands neither among what is below it nor among what is above it
  missing : (xs : List K) (x : K) (i : ℕ) → ((k : ℕ) (d : K) → 0 ≤ k → k < i → R (get_or xs k d) x ≡ Less) → ((k : ℕ) (d : K) → i ≤ k → k < length xs → R (get_or xs k d) x ≡ Greater) → In x xs → ⊥
  missing xs x i low high h = let c = contains_from_in xs x h in go c.0 c.1 c.2
    where
      go : (k : ℕ) → k < length xs → get_or xs k x ≡ x → ⊥
      go k l e = let t = tied_itself o x in let u : R (get_or xs k x) x ≡ Equal = subst (λ w. R w x ≡ Equal) (sym e) t in
          elim (cases_lt k i) [ inl b ↦ (let v = low k x (omega arith) b in cc) | inr b ↦ (let v = high k x b l in cc) ]

  -- what a binary search in an ascending list answers
  pub search_finds : (xs : List K) (x : K) (r : Result ℕ ℕ) → IsAscending R xs → IsSearchInRange r (length xs) → IsBinarySearchResult (λ y. R y x) xs r → IsTrue (is_ok r) ↔ In x xs
  search_finds xs x (Ok i) a h p = (λ t. found xs x i h p, λ t. refl)
  search_finds xs x (Err i) a h p =
      let parts = p (searchable_from_sorted o (λ y. y) xs x (sorted_from_ascending R o xs a)) in
      (λ t. cc, λ t. absurd (missing xs x i parts.0 parts.1 t))
