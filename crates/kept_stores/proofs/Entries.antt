-- True stores stay true.
use Rattle.std.proofs.Common.{◌≡◌, sym, ap, subst, ℕ, arith, Bool, true, Some, Result, Ok, Err}
use Rattle.std.specs.Prelude.{OnOk, OnErr}
use Rattle.std.specs.List.{AllByRecursion, IsDistinct}
use Rattle.std.specs.Map.{keys_of}
use Rattle.engine_face.specs.StoreLaws.{IsWithin, true_looked, true_put, true_found}
use Rattle.engine_face.specs.Stores.{Store, empty_store, found, looked, put_in}
use Rattle.kept_stores.specs.Truth.{IsTrueStore}

module _ {K V : Type 0} (same : K → K → Bool) (sound : (a b : K) → same a b ≡ true → a ≡ b) (Holds : K → V → Type 0) where
  nothing : (capacity : ℕ) → IsTrueStore same Holds (empty_store capacity)
  unfolding IsDistinct
  nothing capacity = record { entries = tt; distinct = tt; within = omega arith }

  pub true_empty : (store : Store K V) (capacity : ℕ) → store ≡ empty_store capacity → IsTrueStore same Holds store
  true_empty store capacity e = subst (IsTrueStore same Holds) (sym e) (nothing capacity)

  pub true_after_look : (store left : Store K V) (key : K) → left ≡ looked same store key → IsDistinct same (keys_of left.entries) → IsWithin left → IsTrueStore same Holds store → IsTrueStore same Holds left
  true_after_look store left key e distinct within known = record {
    entries = subst (λ (s : Store K V). AllByRecursion (λ entry. Holds entry.0 entry.1) s.entries) (sym e) (true_looked same sound Holds store key known.entries);
    distinct = distinct;
    within = within;
  }

  pub true_after_put : {A X : Type 0} (r : Result A X) (store left : Store K V) (key : K) (value : V) → OnOk r (left ≡ put_in same store key value) → OnErr r (left ≡ store)
      → IsDistinct same (keys_of left.entries) → IsWithin left → IsTrueStore same Holds store → Holds key value → IsTrueStore same Holds left
  true_after_put (Ok a) store left key value put err distinct within known here = record {
    entries = subst (λ (s : Store K V). AllByRecursion (λ entry. Holds entry.0 entry.1) s.entries) (sym put) (true_put same sound Holds store key value here known.entries);
    distinct = distinct;
    within = within;
  }
  true_after_put (Err x) store left key value put err distinct within known here = subst (IsTrueStore same Holds) (sym err) known

  pub misses_after_put : {A X : Type 0} (r : Result A X) (store left : Store K V) (key : K) (value : V) → OnOk r (left ≡ put_in same store key value) → OnErr r (left ≡ store) → left.misses ≡ store.misses
  misses_after_put (Ok a) store left key value put err = ap (λ (s : Store K V). s.misses) put
  misses_after_put (Err x) store left key value put err = ap (λ (s : Store K V). s.misses) err

  pub true_of_key : (store : Store K V) (key : K) (value : V) → IsTrueStore same Holds store → found same store key ≡ Some value → Holds key value
  true_of_key store key value known e = true_found same sound Holds store key value known.entries e
