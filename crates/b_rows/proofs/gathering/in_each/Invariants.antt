use Rattle.std.proofs.Common.{◌≡◌, drop}
use Rattle.b_sets.specs.Rows as rows
use Rattle.b_rows.proofs.gathering.in_each.Given as goal

abbrev pub invariant-loop-set : goal.invariant-loop-set
invariant-loop-set l = rows.in_each l.sets l.x ≡ rows.in_each (drop l.set-index l.sets) l.x
