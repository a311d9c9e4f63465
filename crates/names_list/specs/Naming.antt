-- A list of packed states, numbered by their places. It grows at its end.
use Rattle.std.specs.Prelude.{◌≡◌, ◌<◌, ℕ, suc, List, [], ◌∷◌, ◌++◌, length, Some, slice_get, if◌then◌else◌}
use Rattle.std.specs.List.{list_any, AllByRecursion}
use Rattle.engine_face.specs.Keys.{same_bytes}
use Rattle.engine_face.specs.Meaning.{Meaning}
use Rattle.engine_face.specs.Packing.{Unpacking, IsPacked}

-- the place of a packed state, or the list's length
abbrev pub place : List (List ℕ) → List ℕ → ℕ
place [] state = 0
place (name ∷ names) state = if same_bytes state name then 0 else suc (place names state)

-- no packed state stands in it twice
abbrev pub AreDistinct : List (List ℕ) → Type 0
AreDistinct names = (i j : ℕ) (state : List ℕ) → slice_get names i ≡ Some state → slice_get names j ≡ Some state → i ≡ j

-- a state that is there stays where it is, and another goes last
abbrev pub with_state : List (List ℕ) → List ℕ → List (List ℕ)
with_state names state = if list_any (same_bytes state) names then names else names ++ state ∷ []

-- the names of a machine's states: root is the first, each stands for a state, and none stands there twice
pub record AreTrueNames (m : Meaning) (unpack : Unpacking) (names : List (List ℕ)) : Type 0 where
  pub root : List ℕ
  pub first : slice_get names 0 ≡ Some root
  pub is_root : unpack root ≡ Some m.root
  pub packed : AllByRecursion (IsPacked unpack) names
  pub distinct : AreDistinct names
