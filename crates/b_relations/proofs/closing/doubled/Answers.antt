use Rattle.std.proofs.Common.{◌++◌, sym, subst}
use Rattle.ascending.specs.Ascending.{IsAscending}
use Rattle.b_values.specs.ValueLaws.{elements_ascend}
use Rattle.b_values.specs.Values.{elements, value_cmp}
use Rattle.b_relations.specs.Relations.{compose_members}
use Rattle.b_relations.proofs.ClosureLaws.{doubled_is, part_fault, square_within}
use Rattle.b_relations.proofs.closing.doubled.Goals as goal

pub united-requires-clause-left : goal.united-requires-clause-left
united-requires-clause-left c = subst (IsAscending value_cmp) (sym c.members.ensures) (elements_ascend c.args.s.now c.requires.value)

pub united-requires-clause-right : goal.united-requires-clause-right
united-requires-clause-right c = subst (IsAscending value_cmp) (sym c.members-in-Ok.ensures) (elements_ascend c.in-Ok.square c.in-Ok.ensures.kept.value)

pub returns-in-Ok : goal.returns-in-Ok
returns-in-Ok c = doubled_is c.args.s.now c.in-Ok.square c.members.result.now c.members-in-Ok.result.now c.united.result c.in-Ok.ensures.value c.members.ensures c.members-in-Ok.ensures c.united.ensures

pub returns-in-Err : goal.returns-in-Err
returns-in-Err c = part_fault (compose_members c.args.s.now c.args.s.now) (elements c.args.s.now ++ compose_members c.args.s.now c.args.s.now) c.in-Err.fault (square_within c.args.s.now) c.in-Err.ensures.value
