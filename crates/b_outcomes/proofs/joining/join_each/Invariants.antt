use Rattle.std.proofs.Common.{◌≡◌, drop, map}
use Rattle.b_outcomes.specs.Frames.{joined}
use Rattle.b_outcomes.specs.Gathered.{adds}
use Rattle.b_outcomes.proofs.joining.join_each.Given as goal

abbrev pub invariant-loop-y : goal.invariant-loop-y
invariant-loop-y l = adds l.fn.out (map (λ y. joined l.first l.targets l.x y) l.ys) ≡ adds l.out (map (λ y. joined l.first l.targets l.x y) (drop l.y-index l.ys))
