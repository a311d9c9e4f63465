use Rattle.std.proofs.Common.{◌∙◌, Some, None, sym, ap}
use Rattle.std.specs.Option.{option_map}
use Rattle.b_grammar.specs.Descent as descent
use Rattle.b_grammar.specs.Descent.{if_some, alone}
use Rattle.b_read_expr.specs.Grouping.{parts_of, row_of}
use Rattle.b_read_expr.proofs.Passes.{no_levels, grouped_none, grouped_step}
use Rattle.b_read_expr.proofs.grouping.grouped.Goals as goal

pub returns-in-None : goal.returns-in-None
returns-in-None c =
    ap (λ q. if_some q alone)
    (grouped_step (descent.grouped c.args.levels.now (c.args.first, parts_of c.args.parts)) None c.loop-level.looser.now c.in-Some.rest.now c.in-Some.level.now (row_of c.loop-level.row) c.loop-level.invariant c.in-Some.ensures.cases.0
    (ap (option_map row_of) (sym c.in-None.is) ∙ c.in_ok-more.ensures))

pub loop-level-preserved : goal.loop-level-preserved
loop-level-preserved c =
    grouped_step (descent.grouped c.args.levels.now (c.args.first, parts_of c.args.parts)) (Some (row_of c.in-Some-2.more)) c.loop-level.looser.now c.in-Some.rest.now c.in-Some.level.now (row_of c.loop-level.row) c.loop-level.invariant c.in-Some.ensures.cases.0
    (ap (option_map row_of) (sym c.in-Some-2.is) ∙ c.in_ok-more.ensures)

pub returns : goal.returns
returns c =
    c.alone.ensures
    ∙ ap (λ q. if_some q alone)
    (sym (grouped_none (row_of c.loop-level.row)) ∙ ap (λ l. descent.grouped l (row_of c.loop-level.row)) (sym (no_levels c.loop-level.looser.now c.in_default.ensures.cases)) ∙ c.loop-level.invariant)
