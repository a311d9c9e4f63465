use Rattle.std.proofs.Common.{◌≡◌, [], ◌∷◌, map, take}
use Rattle.b_values.specs.Values.{elements}
use Rattle.b_values.specs.declared.values.Value.TheVariants.{Set}
use Rattle.b_funsets.proofs.subsets.with_first.Given as goal

abbrev pub invariant-loop-v : goal.invariant-loop-v
invariant-loop-v l = l.more ≡ map (λ v. Set (l.x ∷ elements v)) (Set [] ∷ take l.v-index l.fn.sets)
