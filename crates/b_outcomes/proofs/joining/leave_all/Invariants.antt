use Rattle.std.proofs.Common.{◌≡◌, drop}
use Rattle.b_outcomes.specs.Gathered.{adds}
use Rattle.b_outcomes.proofs.joining.leave_all.Given as goal

abbrev pub invariant-loop-frame : goal.invariant-loop-frame
invariant-loop-frame l = adds l.fn.out l.frames ≡ adds l.out (drop l.frame-index l.frames)
