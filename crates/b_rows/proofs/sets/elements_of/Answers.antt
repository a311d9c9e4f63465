use Rattle.b_rows.proofs.Kept.{one_more_element}
use Rattle.b_rows.proofs.sets.elements_of.Goals as goal

pub loop-index-preserved : goal.loop-index-preserved
loop-index-preserved c = one_more_element c.args.set c.loop-index.index c.loop-index.found.items _ _ c.loop-index.invariant c.element.ensures c.in_ok-push.ensures.items
