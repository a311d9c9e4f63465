use Rattle.std.proofs.Common.{◌≡◌, ◌++◌, drop}
use Rattle.b_sets.specs.Rows as spec
use Rattle.b_sets.proofs.products.couples.Given as goal

abbrev pub invariant-loop-x : goal.invariant-loop-x
invariant-loop-x l = l.found ++ spec.couples (drop l.x-index l.xs) l.ys ≡ spec.couples l.xs l.ys
