use Rattle.std.proofs.Common.{map, sym, subst}
use Rattle.ascending.specs.Ascending.{IsAscending}
use Rattle.b_values.specs.ValueLaws.{elements_ascend}
use Rattle.b_values.specs.Values.{value_cmp}
use Rattle.set_making.specs.MakingLaws.{gathered_all}
use Rattle.b_relations.specs.Relations.{couple, couples, iterated}
use Rattle.b_relations.proofs.IterateLaws.{at_relation}
use Rattle.b_relations.proofs.Results.{made_ascends}
use Rattle.b_relations.proofs.iterating.iterated.Goals as goal

pub steps-requires : goal.steps-requires
steps-requires c = subst (IsAscending value_cmp) (sym c.members.ensures) (elements_ascend c.args.r.now c.requires.value)

pub set_in_order-requires : goal.set_in_order-requires
set_in_order-requires c = made_ascends (map couple (iterated (couples c.args.r.now) c.args.times)) c.in-Ok.members (at_relation c.args.r.now c.args.times c.members.result.now c.in-Ok.members c.members.ensures c.in-Ok.ensures)

pub returns-in-Ok : goal.returns-in-Ok
returns-in-Ok c = gathered_all c.in-Ok.members (map couple (iterated (couples c.args.r.now) c.args.times)) c.set_in_order.result (at_relation c.args.r.now c.args.times c.members.result.now c.in-Ok.members c.members.ensures c.in-Ok.ensures) c.set_in_order.ensures
