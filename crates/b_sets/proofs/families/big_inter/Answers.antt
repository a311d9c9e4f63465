use Rattle.b_values.specs.ValueLaws.{elements_are_values}
use Rattle.b_sets.proofs.RowLaws.{big_inter_law, big_inter_kept}
use Rattle.b_sets.proofs.families.big_inter.Goals as goal

pub common-requires : goal.common-requires
common-requires c = rw c.members.ensures (elements_are_values _ c.requires.value)

pub returns-clause-kept : goal.returns-clause-kept
returns-clause-kept c = big_inter_kept _ _ c.requires (rw c.members.ensures at c.common.ensures)

pub returns-clause-members : goal.returns-clause-members
returns-clause-members c = big_inter_law _ _ (rw c.members.ensures at c.common.ensures)
