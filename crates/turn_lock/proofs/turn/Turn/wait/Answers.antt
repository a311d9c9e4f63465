use Rattle.std.proofs.Common.{rules, arith, ap, ◌∙◌}
use Rattle.turn_lock.proofs.Steps.{serves}
use Rattle.turn_lock.proofs.Takings.{came, waits_more}
use Rattle.turn_lock.proofs.turn.Turn.wait.Goals as goal

pub load-served-requires : goal.load-served-requires
load-served-requires g c = let w = c.requires.waits.0 in let same = c.loop.invariant.1 in (
  search rules,
  search rules,
  serves _ _ _ _ _ w.0 _ (ap (λ m. m.0.stage) same ∙ w.2) (omega (arith, ap (λ m. m.0.shares) same, c.requires.waits.1)),
)

pub loop-preserved : goal.loop-preserved
loop-preserved g c = let w = c.requires.waits.0 in (
  c.load-served.ensures.0 ∙ c.loop.invariant.0,
  waits_more g.V.Kept.fits g.V.Kept.history (g.V.Kept.tag c.args.self.now.table.shared.key.value) _ _ _ c.args.ticket c.load-served.result w.0 c.loop.invariant.1 w.1 w.2 c.load-served.ensures.2 c.if-served-ticket.false,
)

pub returns-then-served-ticket-clause-came : goal.returns-then-served-ticket-clause-came
returns-then-served-ticket-clause-came g c = let w = c.requires.waits.0 in
    came g.V.Kept.fits g.V.Kept.history _ _ _ _ c.args.ticket c.load-served.result w.0 c.loop.invariant.1 c.requires.turn.1 w.1 w.2 w.3 c.load-served.ensures.2 c.if-served-ticket.true
