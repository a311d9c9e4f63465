use Rattle.std.proofs.Common.{◌≡◌, ◌++◌, map, length}
use Rattle.b_grammar.specs.Grammar.{link}
use Rattle.b_read_expr.specs.Grouping.{from_last}
use Rattle.b_read_expr.proofs.grouping.links_of.Given as goal

-- the links so far and those of the parts that are left make the whole
abbrev pub invariant-loop-part : goal.invariant-loop-part
invariant-loop-part l = l.links ++ map link (from_last l.left) ≡ map link (from_last l.fn.run)

abbrev pub decreases-loop-part : goal.decreases-loop-part
decreases-loop-part l = length l.left
