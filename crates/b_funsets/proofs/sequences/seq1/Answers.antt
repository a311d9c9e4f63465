use Rattle.std.proofs.Common.{sym, subst}
use Rattle.ascending.specs.Ascending.{IsAscending}
use Rattle.ascending.specs.AscendingLaws.{ascending_none}
use Rattle.b_values.specs.Values.{value_cmp}
use Rattle.b_funsets.proofs.SequenceLaws.{seq1_kept, seq1_members}
use Rattle.b_funsets.proofs.sequences.seq1.Goals as goal

pub set_in_order-requires : goal.set_in_order-requires
set_in_order-requires c = subst (IsAscending value_cmp) (sym c.new.ensures) (ascending_none value_cmp)

pub returns-then-is_empty-clause-kept : goal.returns-then-is_empty-clause-kept
returns-then-is_empty-clause-kept c = seq1_kept _ _ c.new.ensures c.set_in_order.ensures

pub returns-then-is_empty-clause-members : goal.returns-then-is_empty-clause-members
returns-then-is_empty-clause-members c = seq1_members _ _ c.members.ensures c.if-is_empty.ensures _ _ c.new.ensures c.set_in_order.ensures
