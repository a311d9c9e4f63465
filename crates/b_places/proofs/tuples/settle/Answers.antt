use Rattle.b_places.specs.Walks.{to_come}
use Rattle.b_rows.specs.Answers.{fault_at}
use Rattle.b_values.specs.declared.values.FaultKind.TheVariants.{TooLarge}
use Rattle.b_places.proofs.Limit.{past_tuple, past_fault}
use Rattle.b_places.proofs.tuples.settle.Goals as goal

pub returns-else-walk-limit-clause-found : goal.returns-else-walk-limit-clause-found
returns-else-walk-limit-clause-found c rs env before h =
    past_tuple (fault_at TooLarge c.args.at) c.args.limit c.args.walk.now.number rs env c.past_limit.new.walk before (to_come rs env c.args.walk.now) c.args.walk.now.values c.args.found c.past_limit.result
    h c.past_limit.ensures.fault c.if-walk-limit.false c.past_limit.ensures.values c.past_limit.ensures.ranges c.past_limit.ensures.fresh
    c.in-Ok-true.field-0 c.in-Ok-true.is c.in-Ok-true.field-0-test

pub returns-else-walk-limit-2-clause-found : goal.returns-else-walk-limit-2-clause-found
returns-else-walk-limit-2-clause-found c rs env before h =
    past_fault (fault_at TooLarge c.args.at) c.args.limit c.args.walk.now.number rs env c.past_limit-else-walk-limit-2.new.walk before (to_come rs env c.args.walk.now) c.args.walk.now.values c.args.found c.past_limit-else-walk-limit-2.result
    h c.past_limit-else-walk-limit-2.ensures.fault c.if-walk-limit-2.false c.past_limit-else-walk-limit-2.ensures.values c.past_limit-else-walk-limit-2.ensures.ranges c.past_limit-else-walk-limit-2.ensures.fresh
    c.in-Err-Fault.field-0 c.in-Err-Fault.f c.in-Err-Fault.is (rw c.in-Err-Fault.is at c.in-Err-Fault.field-0-is)
