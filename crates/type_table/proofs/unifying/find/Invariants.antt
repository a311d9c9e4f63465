use Rattle.type_table.proofs.Links.{Walks}
use Rattle.type_table.proofs.unifying.find.Given as goal

abbrev pub invariant-loop-rows : goal.invariant-loop-rows
invariant-loop-rows l = Walks l.fn.rows l.rows l.i l.at

abbrev pub decreases-loop-rows : goal.decreases-loop-rows
decreases-loop-rows l = l.at
