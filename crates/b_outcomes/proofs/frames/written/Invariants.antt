use Rattle.std.proofs.Common.{◌≡◌, drop}
use Rattle.b_outcomes.specs.Frames.{written}
use Rattle.b_outcomes.proofs.frames.written.Given as goal

abbrev pub invariant-loop-i : goal.invariant-loop-i
invariant-loop-i l = written l.first l.targets l.values l.frame ≡ written l.first (drop l.i l.targets) (drop l.i l.values) l.next
