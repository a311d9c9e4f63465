use Rattle.type_table.proofs.Links.{FlatBelow}
use Rattle.type_table.proofs.unifying.flatten.Given as goal

abbrev pub invariant-loop-i : goal.invariant-loop-i
invariant-loop-i l = FlatBelow l.fn.rows l.rows l.i
