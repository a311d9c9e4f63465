use Rattle.std.proofs.Common.{rules, arith, ap, ◌∙◌}
use Rattle.turn_lock.specs.Views.{is_idle}
use Rattle.turn_lock.proofs.Sums.{nothing_held}
use Rattle.turn_lock.proofs.Steps.{joins, weighs}
use Rattle.turn_lock.proofs.turn.Turn.join.Goals as goal

pub join_seat-requires : goal.join_seat-requires
join_seat-requires g c = (
  search rules,
  search rules,
  nothing_held c.args.other.seat.me.1 c.args.other.rests.1,
  search rules,
  joins _ _ _ _ _ _ _ (omega (arith, c.args.into.now.counts.1, c.args.into.now.has_share)) c.args.into.now.rests.0 c.args.other.rests.0,
)

pub load-requires : goal.load-requires
load-requires g c = let e = c.join_seat.ensures.2 in (
  search rules,
  search rules,
  weighs _ _ _ _ _ _ (ap (λ m. is_idle m.0.stage) e ∙ c.args.into.now.rests.0) (omega (arith, ap (λ m. m.0.shares) e, c.args.into.now.counts.1, c.args.into.now.has_share)),
)
