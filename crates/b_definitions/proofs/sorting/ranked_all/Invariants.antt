use Rattle.std.proofs.Common.{◌≡◌, ◌++◌, map, reverse, length}
use Rattle.b_definitions.specs.Ranks.{ranked}
use Rattle.b_definitions.proofs.sorting.ranked_all.Given as goal

-- those that are left, and then those that were taken from behind
abbrev pub invariant-loop-def : goal.invariant-loop-def
invariant-loop-def l = map (ranked l.index l.ranks) l.left ++ reverse l.all.items ≡ map (ranked l.index l.ranks) l.fn.defs

abbrev pub decreases-loop-def : goal.decreases-loop-def
decreases-loop-def l = length l.left
