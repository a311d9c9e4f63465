-- Between two calls a command in progress leads to what the whole command gives, whatever other sessions do: the answers that it took were true,
-- and the list of states only grows.
use Rattle.std.specs.Prelude.{◌≡◌, List}
use Rattle.b_values.specs.declared.values.State.{State}
use Rattle.engine_face.specs.Meaning.{Meaning}
use Rattle.engine_face.specs.Packing.{Unpacking}
use Rattle.animator.specs.Plans.{Plan, World, run}
use Rattle.session_core.specs.declared.core_of.At.{At}
use Rattle.session_core.specs.declared.held.Held.{Held}
use Rattle.session_core.specs.declared.stages.Need.{Need}
use Rattle.session_core.specs.Standing.{HeldPlaced, StandsBy}

-- The session stands at a plan that leads to what the whole one gives.
pub record Leads (w : World) (m : Meaning) (unpack : Unpacking) (names shown : List State) (whole : Plan) (held : Held) (at : At) (need : Need) : Type 0 where
  pub left : Plan
  pub stands : StandsBy m unpack names shown left held at need
  pub placed : HeldPlaced unpack names held
  pub same : run w left ≡ run w whole
