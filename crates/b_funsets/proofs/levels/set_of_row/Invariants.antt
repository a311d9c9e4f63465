use Rattle.std.proofs.Common.{◌≡◌, ◌++◌, length}
use Rattle.std.specs.Prelude.{reverse}
use Rattle.b_funsets.specs.Levels.{read}
use Rattle.b_funsets.proofs.levels.set_of_row.Given as goal

abbrev pub invariant-loop-c : goal.invariant-loop-c
invariant-loop-c l = l.items ++ reverse l.rest ≡ read l.fn.row

abbrev pub decreases-loop-c : goal.decreases-loop-c
decreases-loop-c l = length l.rest
