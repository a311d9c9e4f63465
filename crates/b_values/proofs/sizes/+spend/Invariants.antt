use Rattle.std.proofs.Common.{◌≡◌, ◌+◌, sum, map, drop}
use Rattle.b_values.specs.Values.{node_count}
use Rattle.b_values.proofs.sizes.+spend.Given as goal

abbrev pub invariant-spend_all-loop-x : goal.invariant-spend_all-loop-x
invariant-spend_all-loop-x l = sum (map node_count l.xs) + l.left ≡ l.budget + sum (map node_count (drop l.x-index l.xs))
