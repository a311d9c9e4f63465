use Rattle.std.specs.Prelude.{reverse}
use Rattle.std.specs.List.{flat_map}
use Rattle.b_funsets.specs.Levels.{children, weight}
use Rattle.b_funsets.proofs.LevelSteps.{gives_err, weight_next}
use Rattle.b_funsets.proofs.levels.grown.Goals as goal

pub returns-in-Err : goal.returns-in-Err
returns-in-Err c =
    let g = children c.args.a c.args.k c.args.some c.args.cs.now in
    gives_err _ (flat_map g (reverse c.args.rows)) (weight (g c.in-Some.row)) c.loop-row.budget (weight (flat_map g (reverse c.args.rows))) (weight c.loop-row.next) c.loop-row.invariant.spent
    (weight_next g _ _ _ _ c.in-Some.row c.in-Some.ensures c.loop-row.invariant.built)
    c.in-Err.ensures.spends
