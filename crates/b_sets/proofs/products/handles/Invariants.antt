use Rattle.std.proofs.Common.{◌≡◌, take}
use Rattle.b_sets.proofs.products.handles.Given as goal

abbrev pub invariant-loop-y : goal.invariant-loop-y
invariant-loop-y l = l.made ≡ take l.y-index l.ys
