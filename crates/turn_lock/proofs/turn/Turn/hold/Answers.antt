use Rattle.std.proofs.Common.{rules, arith, ◌<◌}
use Rattle.turn_lock.proofs.Steps.{draws}
use Rattle.turn_lock.proofs.Holds.{did, adding, leaving, rans, ran_begins}
use Rattle.turn_lock.proofs.turn.Turn.hold.Goals as goal

pub fetch_add-ticket-requires : goal.fetch_add-ticket-requires
fetch_add-ticket-requires g c = (search rules, search rules, draws _ _ _ _ _ _ c.args.pass.now.rests.0 (omega (arith, c.args.pass.now.counts.1, c.args.pass.now.has_share)))

pub fetch_add-requires : goal.fetch_add-requires
fetch_add-requires g c = let has : 0 < c.args.pass.now.seat.me.0.shares = omega (arith, c.args.pass.now.counts.1, c.args.pass.now.has_share) in (
  search rules,
  search rules,
  adding g.V.Kept.fits g.V.Kept.history _ g.F.FnOnce c.args.job _ _ _ c.args.pass.now.seat.me _ c.work-answer.result.0 has
      (did g.V.Kept.fits g.V.Kept.history _ g.F.FnOnce c.args.job c.args.pass.now.seat.me c.fetch_add-ticket.new.seat.me c.wait.new.seat.me _ c.fetch_add-ticket.result _ c.work-answer.result.0 c.requires.job c.fetch_add-ticket.ensures.2 c.wait.ensures.came c.work-answer.ensures.ran),
)

pub fetch_add-served-requires : goal.fetch_add-served-requires
fetch_add-served-requires g c = let has : 0 < c.args.pass.now.seat.me.0.shares = omega (arith, c.args.pass.now.counts.1, c.args.pass.now.has_share) in (
  search rules,
  search rules,
  leaving g.V.Kept.fits g.V.Kept.history _ g.F.FnOnce c.args.job _ _ _ c.fetch_add.result c.args.pass.now.seat.me _ _ c.work-answer.result.0 (search rules) has c.requires.turn.1
      (did g.V.Kept.fits g.V.Kept.history _ g.F.FnOnce c.args.job c.args.pass.now.seat.me c.fetch_add-ticket.new.seat.me c.wait.new.seat.me c.work-answer.new.seat.me c.fetch_add-ticket.result c.work-answer.result.1 c.work-answer.result.0 c.requires.job c.fetch_add-ticket.ensures.2 c.wait.ensures.came c.work-answer.ensures.ran)
      c.fetch_add.ensures.2,
)

pub returns-clause-ran : goal.returns-clause-ran
returns-clause-ran g c = rans g.V.Kept.fits g.V.Kept.history _ g.F.FnOnce c.args.job c.work-answer.result.1 c.fetch_add.result c.fetch_add-served.result c.args.pass.now.seat.me c.work-answer.new.seat.me c.fetch_add.new.seat.me c.fetch_add-served.new.seat.me c.work-answer.result.0
    (did g.V.Kept.fits g.V.Kept.history _ g.F.FnOnce c.args.job c.args.pass.now.seat.me c.fetch_add-ticket.new.seat.me c.wait.new.seat.me c.work-answer.new.seat.me c.fetch_add-ticket.result c.work-answer.result.1 c.work-answer.result.0 c.requires.job c.fetch_add-ticket.ensures.2 c.wait.ensures.came c.work-answer.ensures.ran)
    c.fetch_add.ensures.2 c.fetch_add-served.ensures.2

pub returns-clause-one_history : goal.returns-clause-one_history
returns-clause-one_history g c = ran_begins g.V.Kept.fits g.V.Kept.history _ g.F.FnOnce c.args.job _ _ _ (rans g.V.Kept.fits g.V.Kept.history _ g.F.FnOnce c.args.job c.work-answer.result.1 c.fetch_add.result c.fetch_add-served.result c.args.pass.now.seat.me c.work-answer.new.seat.me c.fetch_add.new.seat.me c.fetch_add-served.new.seat.me c.work-answer.result.0
    (did g.V.Kept.fits g.V.Kept.history _ g.F.FnOnce c.args.job c.args.pass.now.seat.me c.fetch_add-ticket.new.seat.me c.wait.new.seat.me c.work-answer.new.seat.me c.fetch_add-ticket.result c.work-answer.result.1 c.work-answer.result.0 c.requires.job c.fetch_add-ticket.ensures.2 c.wait.ensures.came c.work-answer.ensures.ran)
    c.fetch_add.ensures.2 c.fetch_add-served.ensures.2)
