use Rattle.std.proofs.Common.{sym, subst}
use Rattle.ascending.specs.Ascending.{IsAscending}
use Rattle.b_values.specs.Values.{value_cmp}
use Rattle.b_sets.proofs.CoupleLaws.{couples_ascend, couples_refused}
use Rattle.b_sets.proofs.products.product.Goals as goal

pub returns-then-nodes_of_couples-ge-NODE_LIMIT : goal.returns-then-nodes_of_couples-ge-NODE_LIMIT
returns-then-nodes_of_couples-ge-NODE_LIMIT c = couples_refused _ _ _ c.requires.first c.requires.second c.nodes_of_couples.ensures c.if-nodes_of_couples-ge-NODE_LIMIT.true

pub set_in_order-requires : goal.set_in_order-requires
set_in_order-requires c = subst (IsAscending value_cmp) (sym c.in-Ok.ensures) (couples_ascend _ _ c.requires.first c.requires.second)
