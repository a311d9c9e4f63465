use Rattle.std.proofs.Common.{◌≡◌, drop}
use Rattle.b_outcomes.specs.Frames.{joins}
use Rattle.b_outcomes.specs.Gathered.{adds}
use Rattle.b_outcomes.proofs.joining.join_all.Given as goal

abbrev pub invariant-loop-x : goal.invariant-loop-x
invariant-loop-x l = adds l.fn.out (joins l.first l.targets l.xs l.ys) ≡ adds l.out (joins l.first l.targets (drop l.x-index l.xs) l.ys)
