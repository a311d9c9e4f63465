use Rattle.std.proofs.Common.{◌≡◌, ◌≤◌, length, drop}
use Rattle.b_funsets.specs.Levels.{level}
use Rattle.b_funsets.proofs.levels.functions.Given as goal

abbrev pub invariant-loop-i : goal.invariant-loop-i
invariant-loop-i l = record { within : l.i ≤ length l.s; built : l.rows ≡ level l.a l.t l.i (drop l.i l.s) }

abbrev pub decreases-loop-i : goal.decreases-loop-i
decreases-loop-i l = l.i
