use Rattle.std.proofs.Common.{sym, subst}
use Rattle.ascending.specs.Ascending.{IsAscending}
use Rattle.ascending.specs.AscendingLaws.{ascending_one}
use Rattle.b_values.specs.Values.{value_cmp}
use Rattle.b_funsets.proofs.SequenceLaws.{seq_kept, seq_members}
use Rattle.b_funsets.proofs.sequences.seq.Goals as goal

pub set_in_order-requires : goal.set_in_order-requires
set_in_order-requires c = subst (IsAscending value_cmp) (sym c.in-Ok.ensures) (ascending_one value_cmp _)

pub returns-in-Ok-clause-kept : goal.returns-in-Ok-clause-kept
returns-in-Ok-clause-kept c = seq_kept _ _ c.in-Ok.ensures c.set_in_order.ensures

pub returns-in-Ok-clause-members : goal.returns-in-Ok-clause-members
returns-in-Ok-clause-members c = seq_members _ _ c.members.ensures c.if-not-is_empty.ensures _ _ c.in-Ok.ensures c.set_in_order.ensures
