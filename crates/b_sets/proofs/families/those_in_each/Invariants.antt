use Rattle.std.proofs.Common.{◌≡◌, ◌++◌, drop}
use Rattle.std.specs.Prelude.{filter}
use Rattle.b_sets.specs.Rows as spec
use Rattle.b_sets.proofs.families.those_in_each.Given as goal

abbrev pub invariant-loop-x : goal.invariant-loop-x
invariant-loop-x l = l.found ++ filter (spec.in_each l.sets) (drop l.x-index l.xs) ≡ filter (spec.in_each l.sets) l.xs
