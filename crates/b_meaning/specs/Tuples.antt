-- Tuples one after another: what comes after a tuple of a binder.
use Rattle.std.specs.Prelude.{◌≡◌, ℕ, List, ◌∷◌, Option, Some, None, [], Result, Ok, Err}
use Rattle.std.specs.Borrow.{Bor}
use Rattle.std.specs.declared.alloc.AllocError.{AllocError}
use Rattle.b_meaning.specs.Meaning.{VariableMeaning, ranges_in, limit_fault}
use Rattle.b_places.specs.Places.{Candidate}
use Rattle.b_places.specs.Scopes.{Slots}
use Rattle.b_places.specs.Walks.{ahead, ahead_of, IsResting, IsKeptWalk}
use Rattle.b_places.specs.declared.walk.Walk.{Walk}
use Rattle.b_rows.specs.declared.EvalStop.{EvalStop}
use Rattle.b_rows.specs.declared.EvalStop.TheVariants.{Fault, Memory}

-- the places of a binder that a walk hasn't come to
abbrev pub places_ahead : ℕ → List VariableMeaning → Slots → Walk → List Candidate
places_ahead limit vs env w = ahead (limit_fault vs) limit (ranges_in vs) env w

-- all places of a binder, or those after a tuple
abbrev pub places_after : ℕ → List VariableMeaning → Slots → Option (Bor Walk) → List Candidate
places_after limit vs env last = ahead_of (limit_fault vs) limit (ranges_in vs) env last

-- a walk that stands at a tuple
pub record IsAt (count : ℕ) (w : Walk) : Type 0 where
  pub rests : IsResting count w
  pub kept : IsKeptWalk w

abbrev pub IsTuple : ℕ → Option (Bor Walk) → Type 0
IsTuple count None = Unit {0}
IsTuple count (Some w) = IsAt count w.now

-- the first of the places: a tuple, after which the others come, none, or a fault
abbrev pub IsNext : ℕ → List VariableMeaning → Slots → ℕ → List Candidate → Result (Option Walk) EvalStop → Type 0
IsNext limit vs env count before (Ok (Some w)) = (before ≡ Ok w.values ∷ places_ahead limit vs env w) × IsAt count w
IsNext limit vs env count before (Ok None) = before ≡ []
IsNext limit vs env count before (Err (Fault f)) = (more : List Candidate) × (before ≡ Err f ∷ more)
IsNext limit vs env count before (Err Memory) = Unit {0}

-- the first tuple of the places
abbrev pub IsNextSound : ℕ → List VariableMeaning → Slots → ℕ → List Candidate → Result (Option Walk) AllocError → Type 0
IsNextSound limit vs env count before (Ok (Some w)) = (before ≡ Ok w.values ∷ places_ahead limit vs env w) × IsAt count w
IsNextSound limit vs env count before (Ok None) = before ≡ []
IsNextSound limit vs env count before (Err e) = Unit {0}
