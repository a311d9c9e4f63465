use Rattle.std.proofs.Common.{◌≡◌, ◌+◌, ◌++◌, length}
use Rattle.std.specs.Prelude.{reverse}
use Rattle.std.specs.List.{flat_map}
use Rattle.b_funsets.specs.Levels.{children, weight}
use Rattle.b_funsets.proofs.levels.grown.Given as goal

abbrev pub invariant-loop-row : goal.invariant-loop-row
invariant-loop-row l = record {
  built : l.next ++ flat_map (children l.a l.k l.some l.cs) (reverse l.rows) ≡ flat_map (children l.a l.k l.some l.cs) (reverse l.fn.rows);
  spent : weight l.next + l.budget ≡ 999999;
}

abbrev pub decreases-loop-row : goal.decreases-loop-row
decreases-loop-row l = length l.rows
