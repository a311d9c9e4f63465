use Rattle.std.proofs.Common.{sym, subst}
use Rattle.ascending.specs.Ascending.{IsAscending}
use Rattle.b_values.specs.Values.{value_cmp}
use Rattle.set_making.specs.ListMembers.{filter_ascends}
use Rattle.b_sets.proofs.pairs.common.Goals as goal

pub set_in_order-requires : goal.set_in_order-requires
set_in_order-requires c = subst (IsAscending value_cmp) (sym c.in-Ok.ensures) (filter_ascends value_cmp _ _ c.requires.left)
