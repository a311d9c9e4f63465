use Rattle.std.proofs.Common.{◌≡◌, ◌++◌, take}
use Rattle.set_making.proofs.merging.push_all.Given as goal

abbrev pub invariant-loop-x : goal.invariant-loop-x
invariant-loop-x l = l.items ≡ l.fn.items ++ take l.x-index l.more
