-- The numbers in what comes next are places in the list of states.
use Rattle.std.specs.Prelude.{◌≡◌, List}
use Rattle.std.specs.List.{AllByRecursion}
use Rattle.b_values.specs.declared.values.State.{State}
use Rattle.engine_face.specs.Packing.{Unpacking}
use Rattle.session_words.specs.Replies.{states_in}
use Rattle.session_words.specs.declared.replies.Numbered.{Numbered}
use Rattle.session_core.specs.declared.held.Held.{Held}
use Rattle.session_core.specs.declared.stages.Next.{Next}
use Rattle.session_core.specs.declared.stages.Next.TheVariants.{Goes, Ends, Moves}
use Rattle.session_core.specs.Moving.{numbered_before}
use Rattle.session_core.specs.Standing.{IsPlaced, ChangePlaced, StagePlaced}

module _ (unpack : Unpacking) (names : List State) (root : Numbered) (held : Held) where
  abbrev pub NextPlaced : Next → Type 0
  NextPlaced (Goes stage) = StagePlaced unpack names stage
  NextPlaced (Ends change reply) = ChangePlaced unpack names change × AllByRecursion (IsPlaced unpack names) (states_in reply)
  NextPlaced (Moves n number) = IsPlaced unpack names (numbered_before root held.trace.steps n) × (number ≡ (numbered_before root held.trace.steps n).number)
  NextPlaced _ = Unit {0}
