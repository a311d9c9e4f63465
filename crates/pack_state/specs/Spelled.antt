-- What it is that bytes are those of a state of a face.
use Rattle.std.specs.Prelude.{◌≡◌, ℕ, List, Result, Ok, Err}
use Rattle.b_values.specs.declared.types.Face.{Face}
use Rattle.b_values.specs.declared.values.State.{State}
use Rattle.engine_face.specs.Typing.{IsStateOf}
use Rattle.pack_state.specs.Bytes.{state_bytes}
use Rattle.pack_state.specs.declared.fault.PackFault.{PackFault}
use Rattle.pack_state.specs.declared.fault.PackFault.TheVariants.{NoSuchState, Memory}

-- the state is one of the face, and the bytes are its own
pub record Unpacks (face : Face) (bytes : List ℕ) (s : State) : Type 0 where
  pub fits : IsStateOf face s
  pub bytes_of : bytes ≡ state_bytes s

-- the state of the face that has the bytes, or that none has them; nothing where memory ran out
abbrev pub IsUnpacked : Face → List ℕ → Result State PackFault → Type 0
IsUnpacked face bytes (Ok s) = Unpacks face bytes s
IsUnpacked face bytes (Err NoSuchState) = (s : State) → Unpacks face bytes s → ⊥
IsUnpacked face bytes (Err Memory) = Unit {0}
