use Rattle.std.proofs.Common.{◌≡◌, ◌++◌, map, take}
use Rattle.b_values.specs.declared.values.Value.TheVariants.{Pair}
use Rattle.b_sets.proofs.products.push_couples.Given as goal

abbrev pub invariant-loop-second : goal.invariant-loop-second
invariant-loop-second l = l.found ≡ l.fn.found ++ map (λ y. Pair l.first y) (take l.second-index l.seconds)
