use Rattle.std.proofs.Common.{◌≡◌, ◌-◌, drop, map, Some}
use Rattle.b_outcomes.specs.Frames.{put}
use Rattle.b_outcomes.specs.Gathered.{adds}
use Rattle.b_outcomes.proofs.single.each_member.Given as goal

abbrev pub invariant-loop-x : goal.invariant-loop-x
invariant-loop-x l = adds l.fn.out (map (λ x. put (l.target - l.first) (Some x) l.frame) l.members) ≡ adds l.out (map (λ x. put (l.target - l.first) (Some x) l.frame) (drop l.x-index l.members))
