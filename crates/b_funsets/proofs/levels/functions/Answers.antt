use Rattle.std.proofs.Common.{arith, ◌-◌}
use Rattle.b_funsets.proofs.LevelSteps.{refused_here}
use Rattle.b_funsets.proofs.levels.functions.Goals as goal

pub returns-in-Err-next_level : goal.returns-in-Err-next_level
returns-in-Err-next_level c = refused_here c.in-Err-next_level.fault c.args.a c.args.s.now c.args.t.now (c.loop-i.i - 1) c.loop-i.i c.index-s-i.result c.loop-i.rows
    (omega arith) c.loop-i.invariant.within c.index-s-i.is c.loop-i.invariant.built c.in-Err-next_level.ensures
