use Rattle.std.proofs.Common.{◌≡◌, ◌++◌, drop}
use Rattle.std.specs.Prelude.{filter}
use Rattle.b_sets.specs.Rows as rows
use Rattle.b_rows.proofs.gathering.those_in_each.Given as goal

abbrev pub invariant-loop-x : goal.invariant-loop-x
invariant-loop-x l = l.found.items ++ filter (rows.in_each l.others) (drop l.x-index l.xs) ≡ filter (rows.in_each l.others) l.xs
