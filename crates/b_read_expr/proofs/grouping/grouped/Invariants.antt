use Rattle.std.proofs.Common.{◌≡◌, length}
use Rattle.b_grammar.specs.Descent as descent
use Rattle.b_read_expr.specs.Grouping.{row_of, parts_of}
use Rattle.b_read_expr.proofs.grouping.grouped.Given as goal

-- the looser priorities group what the tighter ones left
abbrev pub invariant-loop-level : goal.invariant-loop-level
invariant-loop-level l = descent.grouped l.looser (row_of l.row) ≡ descent.grouped l.levels (l.fn.first, parts_of l.fn.parts)

abbrev pub decreases-loop-level : goal.decreases-loop-level
decreases-loop-level l = length l.looser
