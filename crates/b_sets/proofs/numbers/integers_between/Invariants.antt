use Rattle.std.proofs.Common.{◌≡◌, pos, ◌+ℤ◌, map}
use Rattle.std.specs.List.{range_with_len}
use Rattle.b_values.specs.declared.values.Value.TheVariants.{Int}
use Rattle.b_sets.proofs.numbers.integers_between.Given as goal

abbrev pub invariant-loop-place : goal.invariant-loop-place
invariant-loop-place l = l.items ≡ map (λ k. Int (l.low +ℤ pos k)) (range_with_len 0 l.place)
