use Rattle.std.proofs.Common.{◌≡◌, ◌++◌, not, drop}
use Rattle.std.specs.Prelude.{filter}
use Rattle.set_making.specs.Making as spec
use Rattle.b_sets.proofs.pairs.those_not_among.Given as goal

abbrev pub invariant-loop-x : goal.invariant-loop-x
invariant-loop-x l = l.found ++ filter (λ x. not (spec.is_among l.ys x)) (drop l.x-index l.xs) ≡ filter (λ x. not (spec.is_among l.ys x)) l.xs
