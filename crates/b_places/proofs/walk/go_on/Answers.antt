use Rattle.std.proofs.Common.{arith, ◌∙◌}
use Rattle.b_places.proofs.Going.{ends, goes_back, goes_back_work, goes_back_stands, goes_back_kept, takes, takes_work, takes_kept}
use Rattle.b_places.proofs.walk.go_on.Goals as goal

pub returns-in-Ok-End-clause-found : goal.returns-in-Ok-End-clause-found
returns-in-Ok-End-clause-found c rs env size =
    c.loop-walk.invariant.found rs env size
    ∙ ends c.args.count c.loop-walk.walk c.step.new.walk c.loop-walk.invariant.turns c.step.ensures.fresh c.in-Ok-End.field-0 c.in-Ok-End.ensures.turned rs env size c.in-Ok-End.field-0-is

pub loop-walk-preserved : goal.loop-walk-preserved
loop-walk-preserved c = record {
  found = λ rs env size.
      c.loop-walk.invariant.found rs env size
      ∙ goes_back c.args.count c.loop-walk.walk c.step.new.walk c.loop-walk.invariant.turns c.step.ensures.fresh c.in-Ok-Back.field-0 c.in-Ok-Back.ensures.turned rs env size c.in-Ok-Back.field-0-is;
  work = λ rs env size.
      let a = c.loop-walk.invariant.work rs env size in
      let b = goes_back_work c.args.count c.loop-walk.walk c.step.new.walk c.loop-walk.invariant.turns c.step.ensures.fresh c.in-Ok-Back.field-0 c.in-Ok-Back.ensures.turned rs env size c.in-Ok-Back.field-0-is in
      omega (arith, a, b);
  turns = goes_back_stands c.args.count c.loop-walk.walk c.step.new.walk c.loop-walk.invariant.turns c.step.ensures.fresh c.in-Ok-Back.field-0 c.in-Ok-Back.ensures.turned c.in-Ok-Back.field-0-is;
  kept = goes_back_kept c.args.count c.loop-walk.walk c.step.new.walk c.loop-walk.invariant.turns c.step.ensures.fresh c.in-Ok-Back.field-0 c.in-Ok-Back.ensures.turned c.in-Ok-Back.field-0-is c.loop-walk.invariant.kept;
  number = c.step.ensures.number ∙ c.loop-walk.invariant.number;
}

pub returns-in-Ok-Forward-clause-found : goal.returns-in-Ok-Forward-clause-found
returns-in-Ok-Forward-clause-found c rs env size =
    c.loop-walk.invariant.found rs env size
    ∙ takes c.args.count c.loop-walk.walk c.step.new.walk c.loop-walk.invariant.turns c.step.ensures.fresh c.in-Ok-Forward.field-0 c.in-Ok-Forward.ensures.turned rs env size c.whole_or_asks.result c.in-Ok-Forward.field-0-is c.whole_or_asks.ensures

pub returns-in-Ok-Forward-clause-work : goal.returns-in-Ok-Forward-clause-work
returns-in-Ok-Forward-clause-work c rs env size =
    let a = c.loop-walk.invariant.work rs env size in
    let b = takes_work c.args.count c.loop-walk.walk c.step.new.walk c.loop-walk.invariant.turns c.step.ensures.fresh c.in-Ok-Forward.field-0 c.in-Ok-Forward.ensures.turned rs env size c.whole_or_asks.result c.in-Ok-Forward.field-0-is c.whole_or_asks.ensures in
    omega (arith, a, b)

pub returns-in-Ok-Forward-clause-kept : goal.returns-in-Ok-Forward-clause-kept
returns-in-Ok-Forward-clause-kept c = takes_kept c.args.count c.loop-walk.walk c.step.new.walk c.loop-walk.invariant.turns c.step.ensures.fresh c.in-Ok-Forward.field-0 c.in-Ok-Forward.ensures.turned c.in-Ok-Forward.field-0-is c.loop-walk.invariant.kept
