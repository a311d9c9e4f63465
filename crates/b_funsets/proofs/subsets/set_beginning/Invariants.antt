use Rattle.std.proofs.Common.{◌≡◌, ◌∷◌, take}
use Rattle.b_funsets.proofs.subsets.set_beginning.Given as goal

abbrev pub invariant-loop-y : goal.invariant-loop-y
invariant-loop-y l = l.items ≡ l.x ∷ take l.y-index l.rest
