use Rattle.std.proofs.Common.{arith}
use Rattle.b_funsets.proofs.SubsetSteps.{subsets_step}
use Rattle.b_funsets.proofs.subsets.nonempty.Goals as goal

pub loop-i-preserved : goal.loop-i-preserved
loop-i-preserved c = record {
  within = omega arith;
  built = subsets_step _ _ _ _ c.loop-i.i _ (omega arith) c.loop-i.invariant.within c.index-members-i.is c.loop-i.invariant.built c.in_ok-sets.ensures;
}
