use Rattle.std.proofs.Common.{◌∙◌, Some, sym, ap}
use Rattle.std.specs.Option.{option_map}
use Rattle.b_grammar.specs.Descent as descent
use Rattle.b_read_expr.specs.Grouping.{parts_of, lists}
use Rattle.b_read_expr.proofs.Passes.{gathered_all, gathered_step, gathered_stop}
use Rattle.b_read_expr.proofs.grouping.gathered_at.Goals as goal

pub loop-part-init : goal.loop-part-init
loop-part-init c = rw (c.new.ensures, c.new-2.ensures) (gathered_all c.args.level (parts_of c.args.parts))

pub loop-part-preserved : goal.loop-part-preserved
loop-part-preserved c =
    gathered_step c.args.level (descent.gathered c.args.level (parts_of c.args.parts)) (Some (lists c.in-Some-2.more)) c.loop-part.left c.pop.new.self c.in-Some.part (lists c.loop-part.gathered) c.loop-part.invariant c.in-Some.ensures
    (ap (option_map lists) (sym c.in-Some-2.is) ∙ c.in_ok-more.ensures)

pub returns-in-None : goal.returns-in-None
returns-in-None c =
    gathered_stop c.args.level (descent.gathered c.args.level (parts_of c.args.parts)) c.loop-part.left c.pop.new.self c.in-Some.part (lists c.loop-part.gathered) c.loop-part.invariant c.in-Some.ensures
    (ap (option_map lists) (sym c.in-None.is) ∙ c.in_ok-more.ensures)
