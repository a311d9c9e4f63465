use Rattle.std.proofs.Common.{◌≡◌}
use Rattle.turn_lock.specs.Turns.{known, IsPassOf}
use Rattle.turn_rows.proofs.crowd.raise_often.Given as goal

abbrev pub invariant-loop : goal.invariant-loop
invariant-loop g l = IsPassOf l.turn l.pass × ((known l.pass).shares ≡ (known l.initial.pass).shares)
