use Rattle.std.proofs.Common.{◌++◌, sym, subst}
use Rattle.ascending.specs.Ascending.{IsAscending}
use Rattle.ascending.specs.AscendingLaws.{set_of_ascends}
use Rattle.b_values.specs.OrderLaws.{value_total, value_same}
use Rattle.b_values.specs.Values.{value_cmp}
use Rattle.b_sets.proofs.RowLaws.{merged_answers}
use Rattle.b_sets.proofs.pairs.merged.Goals as goal

pub set_in_order-requires : goal.set_in_order-requires
set_in_order-requires c = subst (IsAscending value_cmp) (sym c.in-Ok.ensures) (set_of_ascends value_cmp value_total value_same (c.args.xs.now ++ c.args.ys.now))

pub returns-in-Ok : goal.returns-in-Ok
returns-in-Ok c = merged_answers c.args.xs.now c.args.ys.now _ _ c.in-Ok.ensures c.set_in_order.ensures
