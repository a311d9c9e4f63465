use Rattle.std.proofs.Common.{◌≡◌, ◌++◌, take}
use Rattle.b_rows.proofs.gathering.push_shares.Given as goal

abbrev pub invariant-loop-x : goal.invariant-loop-x
invariant-loop-x l = l.found.items ≡ l.fn.found.items ++ take l.x-index l.more
