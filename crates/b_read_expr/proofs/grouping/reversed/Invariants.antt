use Rattle.std.proofs.Common.{◌≡◌, ◌++◌, reverse, length}
use Rattle.b_read_expr.proofs.grouping.reversed.Given as goal

abbrev pub invariant-loop-part : goal.invariant-loop-part
invariant-loop-part l = l.all ++ reverse l.left ≡ reverse l.fn.parts

abbrev pub decreases-loop-part : goal.decreases-loop-part
decreases-loop-part l = length l.left
