-- What is taken from a source.
use Rattle.std.specs.Prelude.{◌≡◌, ◌≢◌, ℕ, ◌+◌, ◌<◌, List, [], ◌∷◌, ◌++◌, length, take, Option, All, IfSome}
use Rattle.host_io.specs.Outside.{before_told}
use Rattle.animator.specs.Lines.{chomped}

-- What was left is this line, its LF, perhaps with a CR before it, and then what is left now. The room falls by what was taken.
pub record EndsLine (old : Option (List ℕ)) (room : ℕ) (line : List ℕ) (new : Option (List ℕ)) (room_now : ℕ) : Type 0 where
  pub raw : List ℕ
  pub taken : old ≡ before_told (raw ++ 10 ∷ []) new
  pub one : All (λ b. b ≢ 10) raw
  pub cut : line ≡ chomped raw
  pub room_is : room_now + length raw + 1 ≡ room

-- what was left is these bytes alone, with no LF
pub record EndsInput (old : Option (List ℕ)) (room : ℕ) (line : List ℕ) (new : Option (List ℕ)) : Type 0 where
  pub taken : old ≡ before_told line new
  pub one : All (λ b. b ≢ 10) line
  pub end : IfSome new (λ rest. rest ≡ [])
  pub within : length line < room + 1

-- more bytes were left than there is room, and no LF among those for which there is
pub record PassesRoom (old : Option (List ℕ)) (room : ℕ) (new : Option (List ℕ)) : Type 0 where
  pub bytes : List ℕ
  pub taken : old ≡ before_told bytes new
  pub more : room < length bytes
  pub one : All (λ b. b ≢ 10) (take room bytes)
