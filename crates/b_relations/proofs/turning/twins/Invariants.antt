use Rattle.std.proofs.Common.{◌≡◌, map, take}
use Rattle.b_values.specs.declared.values.Value.TheVariants.{Pair}
use Rattle.b_relations.proofs.turning.twins.Given as goal

abbrev pub invariant-loop-x : goal.invariant-loop-x
invariant-loop-x l = l.found.items ≡ map (λ x. Pair x x) (take l.x-index l.values)
