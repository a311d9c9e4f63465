use Rattle.std.proofs.Common.{sym, subst}
use Rattle.ascending.specs.Ascending.{IsAscending}
use Rattle.b_values.specs.ValueLaws.{elements_ascend}
use Rattle.b_values.specs.Values.{value_cmp}
use Rattle.b_values.specs.declared.values.Value.{Value}
use Rattle.set_making.specs.MakingLaws.{answers_kept}
use Rattle.b_relations.specs.Relations.{Relates, compose_members}
use Rattle.b_relations.proofs.JoinLaws.{compose_is}
use Rattle.b_relations.proofs.Results.{answers_relation}
use Rattle.b_relations.proofs.RowLaws.{in_compose}
use Rattle.b_relations.proofs.RowValues.{compose_values}
use Rattle.b_relations.proofs.joining.compose.Goals as goal

pub join_all-requires : goal.join_all-requires
join_all-requires c = subst (IsAscending value_cmp) (sym c.members-2.ensures) (elements_ascend c.args.s.now c.requires.second.value)

pub returns-clause-value : goal.returns-clause-value
returns-clause-value c = (compose_is c.args.r.now c.args.s.now c.members.result.now c.members-2.result.now c.join_all.result c.members.ensures c.members-2.ensures c.join_all.ensures)

pub returns-clause-kept : goal.returns-clause-kept
returns-clause-kept c = answers_kept (compose_members c.args.r.now c.args.s.now) c.join_all.result (compose_values c.args.r.now c.args.s.now c.requires.first.value c.requires.second.value) (compose_is c.args.r.now c.args.s.now c.members.result.now c.members-2.result.now c.join_all.result c.members.ensures c.members-2.ensures c.join_all.ensures)

pub returns-clause-members : goal.returns-clause-members
returns-clause-members c = answers_relation (λ x z. (y : Value) × Relates c.args.r.now x y × Relates c.args.s.now y z) (compose_members c.args.r.now c.args.s.now) c.join_all.result (in_compose c.args.r.now c.args.s.now) (compose_is c.args.r.now c.args.s.now c.members.result.now c.members-2.result.now c.join_all.result c.members.ensures c.members-2.ensures c.join_all.ensures)
