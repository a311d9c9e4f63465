use Rattle.std.proofs.Common.{sym, subst}
use Rattle.ascending.specs.Ascending.{IsAscending}
use Rattle.b_values.specs.Values.{value_cmp}
use Rattle.b_values.specs.ValueLaws.{elements_ascend}
use Rattle.b_funsets.proofs.Arranging.{arranged, arranged_kept, arranged_members, refused_answer}
use Rattle.b_funsets.proofs.arrangements.iseq.Goals as goal

pub arrangements-requires : goal.arrangements-requires
arrangements-requires c = subst (IsAscending value_cmp) (sym c.members.ensures) (elements_ascend _ c.requires.value)

pub returns-in-Ok-clause-value : goal.returns-in-Ok-clause-value
returns-in-Ok-clause-value c = arranged c.args.s.now c.requires _ _ c.members.ensures _ c.in-Ok.ensures.found c.set_with.ensures

pub returns-in-Ok-clause-kept : goal.returns-in-Ok-clause-kept
returns-in-Ok-clause-kept c = arranged_kept c.args.s.now c.requires _ _ c.members.ensures _ c.in-Ok.ensures.found c.set_with.ensures

pub returns-in-Ok-clause-members : goal.returns-in-Ok-clause-members
returns-in-Ok-clause-members c = arranged_members c.args.s.now c.requires _ _ c.members.ensures _ c.in-Ok.ensures.found c.set_with.ensures

pub returns-in-Err-clause-value : goal.returns-in-Err-clause-value
returns-in-Err-clause-value c = refused_answer c.args.s.now c.requires _ c.in-Err.fault c.members.ensures c.in-Err.ensures.refused
