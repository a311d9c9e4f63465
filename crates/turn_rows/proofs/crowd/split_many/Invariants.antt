use Rattle.std.proofs.Common.{◌≡◌, ◌+◌, ◌-◌}
use Rattle.std.specs.Prelude.{All, vec_len}
use Rattle.turn_lock.specs.Turns.{known, IsPassOf}
use Rattle.turn_rows.proofs.crowd.split_many.Given as goal

abbrev pub invariant-loop-pass : goal.invariant-loop-pass
invariant-loop-pass g l = record {
  turn : IsPassOf l.turn l.pass;
  shares : (known l.pass).shares + vec_len l.others ≡ (known l.initial.pass).shares;
  others : All (IsPassOf l.turn) l.others.items;
}

abbrev pub decreases-loop-pass : goal.decreases-loop-pass
decreases-loop-pass g l = l.count - vec_len l.others
