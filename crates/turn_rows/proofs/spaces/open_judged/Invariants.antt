use Rattle.turn_rows.proofs.Rows.{AreEmptyOf}
use Rattle.turn_rows.proofs.spaces.open_judged.Given as goal

abbrev pub invariant-loop : goal.invariant-loop
invariant-loop g l = AreEmptyOf l.judge l.lists.items
