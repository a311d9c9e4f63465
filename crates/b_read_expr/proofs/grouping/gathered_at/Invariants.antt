use Rattle.std.proofs.Common.{◌≡◌, Some, length}
use Rattle.b_grammar.specs.Descent as descent
use Rattle.b_read_expr.specs.Grouping.{parts_of, lists}
use Rattle.b_read_expr.proofs.Passes.{gathered_from}
use Rattle.b_read_expr.proofs.grouping.gathered_at.Given as goal

-- the parts that are left, in front of those that are gathered
abbrev pub invariant-loop-part : goal.invariant-loop-part
invariant-loop-part l = gathered_from l.level (parts_of l.left) (Some (lists l.gathered)) ≡ descent.gathered l.level (parts_of l.fn.parts)

abbrev pub decreases-loop-part : goal.decreases-loop-part
decreases-loop-part l = length l.left
