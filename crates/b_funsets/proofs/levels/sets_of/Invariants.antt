use Rattle.std.proofs.Common.{◌≡◌, ◌++◌, map, length}
use Rattle.std.specs.Prelude.{reverse}
use Rattle.b_values.specs.declared.values.Value.TheVariants.{Set}
use Rattle.b_funsets.specs.Levels.{read}
use Rattle.b_funsets.proofs.levels.sets_of.Given as goal

abbrev pub invariant-loop-row : goal.invariant-loop-row
invariant-loop-row l = l.sets.items ++ map (λ row. Set (read row)) (reverse l.rows) ≡ map (λ row. Set (read row)) (reverse l.fn.rows)

abbrev pub decreases-loop-row : goal.decreases-loop-row
decreases-loop-row l = length l.rows
