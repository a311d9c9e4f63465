use Rattle.std.proofs.Common.{◌⊎◌}
use Rattle.set_making.specs.MakingLaws.{answers_kept, gathered_all}
use Rattle.b_relations.specs.Relations.{InDomain, Relates, overwrite_members}
use Rattle.b_relations.proofs.Results.{answers_relation, made_ascends}
use Rattle.b_relations.proofs.RowLaws.{in_overwrite}
use Rattle.b_relations.proofs.RowValues.{overwrite_values}
use Rattle.b_relations.proofs.restricting.overwrite.Goals as goal

pub set_in_order-requires : goal.set_in_order-requires
set_in_order-requires c = made_ascends (overwrite_members c.args.r.now c.args.s.now) c.in-Ok.members c.in-Ok.ensures

pub returns-in-Ok-clause-value : goal.returns-in-Ok-clause-value
returns-in-Ok-clause-value c = gathered_all c.in-Ok.members (overwrite_members c.args.r.now c.args.s.now) c.set_in_order.result c.in-Ok.ensures c.set_in_order.ensures

pub returns-in-Ok-clause-kept : goal.returns-in-Ok-clause-kept
returns-in-Ok-clause-kept c = answers_kept (overwrite_members c.args.r.now c.args.s.now) c.set_in_order.result (overwrite_values c.args.r.now c.args.s.now c.requires.relation.value c.requires.over.value)
    (gathered_all c.in-Ok.members (overwrite_members c.args.r.now c.args.s.now) c.set_in_order.result c.in-Ok.ensures c.set_in_order.ensures)

pub returns-in-Ok-clause-members : goal.returns-in-Ok-clause-members
returns-in-Ok-clause-members c = answers_relation (λ x y. Relates c.args.s.now x y ⊎ (Relates c.args.r.now x y × (¬ InDomain c.args.s.now x))) (overwrite_members c.args.r.now c.args.s.now) c.set_in_order.result (in_overwrite c.args.r.now c.args.s.now)
    (gathered_all c.in-Ok.members (overwrite_members c.args.r.now c.args.s.now) c.set_in_order.result c.in-Ok.ensures c.set_in_order.ensures)
