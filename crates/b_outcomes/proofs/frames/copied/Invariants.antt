use Rattle.std.proofs.Common.{◌≡◌, take}
use Rattle.b_outcomes.proofs.frames.copied.Given as goal

abbrev pub invariant-loop-slot : goal.invariant-loop-slot
invariant-loop-slot l = l.slots ≡ take l.slot-index l.frame.slots
