use Rattle.std.proofs.Common.{◌≡◌, ◌++◌, map, reverse, length}
use Rattle.b_definitions.specs.declared.sorting.Ranked.{Ranked}
use Rattle.b_definitions.proofs.sorting.unranked.Given as goal

-- those that are left, and then those that were taken from behind
abbrev pub invariant-loop-one : goal.invariant-loop-one
invariant-loop-one l = map (λ (r : Ranked). r.def) l.left.items ++ reverse l.all.items ≡ map (λ (r : Ranked). r.def) l.fn.ranked.items

abbrev pub decreases-loop-one : goal.decreases-loop-one
decreases-loop-one l = length l.left.items
