use Rattle.std.proofs.Common.{sym, subst}
use Rattle.ascending.specs.Ascending.{IsAscending}
use Rattle.b_values.specs.ValueLaws.{elements_ascend}
use Rattle.b_values.specs.Values.{value_cmp}
use Rattle.set_making.specs.MakingLaws.{answers_kept}
use Rattle.b_relations.specs.Relations.{parallel_members}
use Rattle.b_relations.proofs.JoinLaws.{parallel_is, parallel_law}
use Rattle.b_relations.proofs.RowValues.{parallel_values}
use Rattle.b_relations.proofs.joining.parallel.Goals as goal

pub join_all-requires : goal.join_all-requires
join_all-requires c = subst (IsAscending value_cmp) (sym c.members-2.ensures) (elements_ascend c.args.s.now c.requires.second.value)

pub returns-clause-value : goal.returns-clause-value
returns-clause-value c = (parallel_is c.args.r.now c.args.s.now c.members.result.now c.members-2.result.now c.join_all.result c.members.ensures c.members-2.ensures c.join_all.ensures)

pub returns-clause-kept : goal.returns-clause-kept
returns-clause-kept c = answers_kept (parallel_members c.args.r.now c.args.s.now) c.join_all.result (parallel_values c.args.r.now c.args.s.now c.requires.first.value c.requires.second.value) (parallel_is c.args.r.now c.args.s.now c.members.result.now c.members-2.result.now c.join_all.result c.members.ensures c.members-2.ensures c.join_all.ensures)

pub returns-clause-members : goal.returns-clause-members
returns-clause-members c = parallel_law c.args.r.now c.args.s.now c.join_all.result (parallel_is c.args.r.now c.args.s.now c.members.result.now c.members-2.result.now c.join_all.result c.members.ensures c.members-2.ensures c.join_all.ensures)
