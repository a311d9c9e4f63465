use Rattle.turn_list.specs.Lists.{ArePassesOf}
use Rattle.turn_rows.proofs.tests.two_threads_put_under_33_turns.Given as goal

abbrev pub invariant-loop : goal.invariant-loop
invariant-loop g l = ArePassesOf l.turns.items l.passes.items
