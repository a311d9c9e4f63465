use Rattle.std.proofs.Common.{sym, subst}
use Rattle.ascending.specs.Ascending.{IsAscending}
use Rattle.b_values.specs.ValueLaws.{elements_ascend}
use Rattle.b_values.specs.Values.{elements, value_cmp}
use Rattle.b_relations.specs.Parts.{keeps, passes}
use Rattle.b_relations.proofs.Results.{chosen_answer, filtered_ascends, kept_of}
use Rattle.b_relations.proofs.restricting.restricted.Goals as goal

pub kept_couples-requires : goal.kept_couples-requires
kept_couples-requires c = subst (IsAscending value_cmp) (sym c.members-2.ensures) (elements_ascend c.args.s.now c.requires.set.value)

pub set_in_order-requires : goal.set_in_order-requires
set_in_order-requires c = filtered_ascends (passes (keeps c.args.side (elements c.args.s.now) c.args.within)) (elements c.args.r.now) c.in-Ok.members (elements_ascend c.args.r.now c.requires.relation.value)
    (kept_of c.args.side c.args.within _ _ _ _ _ c.members.ensures c.members-2.ensures c.in-Ok.ensures)

pub returns-in-Ok : goal.returns-in-Ok
returns-in-Ok c = chosen_answer (keeps c.args.side (elements c.args.s.now) c.args.within) (elements c.args.r.now) c.in-Ok.members c.set_in_order.result
    (kept_of c.args.side c.args.within _ _ _ _ _ c.members.ensures c.members-2.ensures c.in-Ok.ensures) c.set_in_order.ensures
