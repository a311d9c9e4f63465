use Rattle.std.proofs.Common.{◌∙◌}
use Rattle.b_sets.proofs.CoupleLaws.{couples_step}
use Rattle.b_sets.proofs.products.couples.Goals as goal

pub loop-x-preserved : goal.loop-x-preserved
loop-x-preserved c =
    couples_step c.args.xs.now c.args.ys.now c.loop-x.found c.push_couples.new.found c.as_slice.result.now c.loop-x.x-index c.x-item.result c.in_ok-first.first
    c.loop-x-test.true c.x-item.is c.loop-x.invariant (c.in_ok-first.ensures ∙ c.in_ok-share.ensures) (c.as_slice.ensures ∙ c.in_ok-seconds.ensures) c.in_ok-push_couples.ensures
