-- What a value under a turn has to fit: it is true of a machine, told by its meaning and its unpacking.
use Rattle.std.specs.Prelude.{◌≡◌, ℕ, zero, suc, Bool, List, Some, slice_get, replicate}
use Rattle.std.specs.List.{AllByRecursion, IsDistinct}
use Rattle.std.specs.Map.{keys_of}
use Rattle.engine_face.specs.Answers.{IsStepList}
use Rattle.engine_face.specs.Keys.{same_bytes}
use Rattle.engine_face.specs.Meaning.{Meaning}
use Rattle.engine_face.specs.Packing.{Unpacking}
use Rattle.engine_face.specs.StoreLaws.{IsWithin}
use Rattle.engine_face.specs.Stores.{Store}
use Rattle.engine_face.specs.declared.answers.StepList.{StepList}
use Rattle.engine_face.specs.declared.answers.ValueAnswer.{ValueAnswer}
use Rattle.value_cache.specs.Keys.{same_key}
use Rattle.value_cache.specs.Truth.{IsTrueValue}
use Rattle.value_cache.specs.declared.store.ValueKey.{ValueKey}

-- an empty entry for each miss
abbrev pub missed : ℕ → List (Unit {0})
missed misses = replicate misses tt

-- each entry holds, no key has two, and the capacity isn't passed
pub record IsTrueStore {K V : Type 0} (same : K → K → Bool) (Holds : K → V → Type 0) (store : Store K V) : Type 0 where
  pub entries : AllByRecursion (λ entry. Holds entry.0 entry.1) store.entries
  pub distinct : IsDistinct same (keys_of store.entries)
  pub within : IsWithin store

module _ (m : Meaning) (unpack : Unpacking) where
  -- a store of what the machine offers at states
  abbrev pub AreTrueSteps : Store (List ℕ) (StepList (List ℕ)) → Type 0
  AreTrueSteps store = IsTrueStore same_bytes (IsStepList m unpack) store

  -- a store of what formulas are in states
  abbrev pub AreTrueValues : Store ValueKey ValueAnswer → Type 0
  AreTrueValues store = IsTrueStore same_key (IsTrueValue m unpack) store

  -- Root has the number 0. Another number is that of the state at its place among the states behind root.
  abbrev pub HasNumber : List (List ℕ) → ℕ → List ℕ → Type 0
  HasNumber behind zero state = unpack state ≡ Some m.root
  HasNumber behind (suc n) state = slice_get behind n ≡ Some state
