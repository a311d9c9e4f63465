use Rattle.turn_list.specs.Lists.{ArePassesOf}
use Rattle.turn_rows.proofs.spaces.put_everywhere.Given as goal

abbrev pub invariant-loop-place : goal.invariant-loop-place
invariant-loop-place g l = ArePassesOf l.turns l.passes
