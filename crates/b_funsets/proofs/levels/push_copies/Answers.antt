use Rattle.b_funsets.specs.Levels.{extended}
use Rattle.b_funsets.proofs.LevelSteps.{spends_err, weight_at}
use Rattle.b_funsets.proofs.levels.push_copies.Goals as goal

pub returns-in-Err-clause-spends : goal.returns-in-Err-clause-spends
returns-in-Err-clause-spends c = spends_err _ _ _ _ _ _ c.loop-c.invariant.spent (weight_at (extended c.args.row.now) c.args.ps.now c.loop-c.c-index _ c.loop-c-test.true c.c-item.is) c.in-Err.ensures.spends
