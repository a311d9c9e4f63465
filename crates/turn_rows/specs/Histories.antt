-- The histories of the values here.
use Rattle.std.specs.Prelude.{◌≡◌, ◌⊎◌, ◌+◌, ◌<◌, ℕ, List, [], ◌∷◌, ◌++◌, length, slice_get, slice_index, replicate, Some}

-- the list is the same, or has the number at its end too
abbrev pub AddsAtMost : ℕ → List ℕ → List ℕ → Type 0
AddsAtMost x before after = (after ≡ before) ⊎ (after ≡ before ++ x ∷ [])

-- the number stands behind so many others, of which the root is one
abbrev pub HasPlace : List ℕ → ℕ → ℕ → Type 0
HasPlace more x place = (before : ℕ) × (place ≡ before + 1) × (slice_get more before ≡ Some x)

-- an empty entry for each time
abbrev pub raised : ℕ → List (Unit {0})
raised times = replicate times tt

-- each number of the list is good
abbrev pub AreGood : (ℕ → Type 0) → List ℕ → Type 0
AreGood good numbers = (k : ℕ) → k < length numbers → good (slice_index numbers k)
