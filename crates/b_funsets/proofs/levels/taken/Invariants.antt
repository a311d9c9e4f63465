use Rattle.std.proofs.Common.{◌≡◌, take}
use Rattle.std.specs.Prelude.{filter}
use Rattle.b_funsets.specs.Levels.{takes}
use Rattle.b_funsets.proofs.levels.taken.Given as goal

abbrev pub invariant-loop-c : goal.invariant-loop-c
invariant-loop-c l = l.ps ≡ filter (takes l.a l.k l.some l.row) (take l.c-index l.cs)
