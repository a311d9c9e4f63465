use Rattle.std.proofs.Common.{sym, subst}
use Rattle.ascending.specs.Ascending.{IsAscending}
use Rattle.b_values.specs.Values.{value_cmp}
use Rattle.b_sets.proofs.IntervalLaws.{integers_ascend, integers_refused}
use Rattle.b_sets.proofs.numbers.set_of_integers.Goals as goal

pub set_in_order-requires : goal.set_in_order-requires
set_in_order-requires c = subst (IsAscending value_cmp) (sym c.in-Ok.ensures) (integers_ascend c.args.low.now c.args.high.now)

pub returns-in-None : goal.returns-in-None
returns-in-None c = integers_refused c.args.low.now c.args.high.now c.in-None.ensures
