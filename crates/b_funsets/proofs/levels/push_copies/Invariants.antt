use Rattle.std.proofs.Common.{◌≡◌, ◌+◌, ◌++◌, map, take}
use Rattle.b_funsets.specs.Levels.{extended, weight}
use Rattle.b_funsets.proofs.levels.push_copies.Given as goal

abbrev pub invariant-loop-c : goal.invariant-loop-c
invariant-loop-c l = record {
  built : l.rows ≡ l.initial.rows ++ map (extended l.row) (take l.c-index l.ps);
  spent : weight (map (extended l.row) (take l.c-index l.ps)) + l.rest ≡ l.budget;
}
