use Rattle.std.proofs.Common.{◌≡◌, map, take}
use Rattle.b_outcomes.specs.Frames.{read}
use Rattle.b_outcomes.proofs.frames.readable.Given as goal

abbrev pub invariant-loop-slot : goal.invariant-loop-slot
invariant-loop-slot l = l.values ≡ map read (take l.slot-index l.frame.slots)
