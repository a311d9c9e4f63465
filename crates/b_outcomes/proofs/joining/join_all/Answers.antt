use Rattle.std.proofs.Common.{List, map, refl}
use Rattle.b_outcomes.specs.Frames.{joined, joins}
use Rattle.b_outcomes.specs.declared.frames.Frame.{Frame}
use Rattle.b_outcomes.proofs.Loops.{added}
use Rattle.b_outcomes.proofs.joining.join_all.Goals as goal

pub loop-x-preserved : goal.loop-x-preserved
loop-x-preserved c =
    added (λ (l : List Frame). joins c.args.first c.args.targets.now l c.args.ys.now) (λ (x : Frame). map (λ y. joined c.args.first c.args.targets.now x y) c.args.ys.now) (λ x xs. refl)
    c.args.out.now c.loop-x.out c.join_each.new.out c.args.xs.now c.loop-x.x-index c.x-item.result c.loop-x-test.true c.x-item.is c.loop-x.invariant c.in-Ok.ensures
