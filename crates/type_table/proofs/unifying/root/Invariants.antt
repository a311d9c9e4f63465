use Rattle.type_table.proofs.Links.{Leads}
use Rattle.type_table.proofs.unifying.root.Given as goal

abbrev pub invariant-loop-at : goal.invariant-loop-at
invariant-loop-at l = Leads l.rows l.i l.at

abbrev pub decreases-loop-at : goal.decreases-loop-at
decreases-loop-at l = l.at
