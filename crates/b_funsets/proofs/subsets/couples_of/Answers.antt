use Rattle.b_funsets.proofs.SubsetSteps.{couples_step}
use Rattle.b_funsets.proofs.subsets.couples_of.Goals as goal

pub loop-x-preserved : goal.loop-x-preserved
loop-x-preserved c = couples_step _ _ _ _ _ _ c.loop-x-test.true c.x-item.is c.loop-x.invariant c.in_ok-push_couples.ensures
