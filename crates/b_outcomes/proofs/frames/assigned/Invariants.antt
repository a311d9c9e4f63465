use Rattle.std.proofs.Common.{◌≡◌, drop, map}
use Rattle.b_outcomes.specs.Frames.{written}
use Rattle.b_outcomes.proofs.frames.assigned.Given as goal

abbrev pub invariant-loop-i : goal.invariant-loop-i
invariant-loop-i l = written l.first (map (λ a. a.target) l.targets) l.values l.frame ≡ written l.first (map (λ a. a.target) (drop l.i l.targets)) (drop l.i l.values) l.next
