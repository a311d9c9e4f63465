use Rattle.std.proofs.Common.{length}
use Rattle.std.specs.Prelude.{All}
use Rattle.turn_lock.specs.Turns.{IsPassOf}
use Rattle.turn_rows.proofs.crowd.join_each.Given as goal

abbrev pub invariant-loop-other : goal.invariant-loop-other
invariant-loop-other l = record {
  into : IsPassOf l.turn l.into;
  others : All (IsPassOf l.turn) l.others.items;
}

abbrev pub decreases-loop-other : goal.decreases-loop-other
decreases-loop-other l = length l.others.items
