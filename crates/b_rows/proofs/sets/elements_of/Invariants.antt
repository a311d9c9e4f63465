use Rattle.std.proofs.Common.{◌≡◌, map}
use Rattle.std.specs.List.{range_with_len}
use Rattle.b_values.specs.declared.values.Value.TheVariants.{Elem}
use Rattle.b_rows.proofs.sets.elements_of.Given as goal

abbrev pub invariant-loop-index : goal.invariant-loop-index
invariant-loop-index l = l.found.items ≡ map (λ i. Elem l.set i) (range_with_len 0 l.index)
