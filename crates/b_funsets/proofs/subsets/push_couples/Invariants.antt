use Rattle.std.proofs.Common.{◌≡◌, ◌++◌, map, take}
use Rattle.b_values.specs.declared.values.Value.TheVariants.{Pair}
use Rattle.b_funsets.proofs.subsets.push_couples.Given as goal

abbrev pub invariant-loop-y : goal.invariant-loop-y
invariant-loop-y l = l.cs ≡ l.initial.cs ++ map (λ y. Pair l.x y) (take l.y-index l.t)
