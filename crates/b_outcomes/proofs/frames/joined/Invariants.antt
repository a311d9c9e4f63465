use Rattle.std.proofs.Common.{◌≡◌, drop}
use Rattle.b_outcomes.specs.Frames.{joined}
use Rattle.b_outcomes.proofs.frames.joined.Given as goal

abbrev pub invariant-loop-target : goal.invariant-loop-target
invariant-loop-target l = joined l.first l.targets l.x l.y ≡ joined l.first (drop l.target-index l.targets) l.next l.y
