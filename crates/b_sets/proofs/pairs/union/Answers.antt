use Rattle.b_values.specs.ValueLaws.{elements_ascend}
use Rattle.b_sets.proofs.RowLaws.{union_law, union_kept}
use Rattle.b_sets.proofs.pairs.union.Goals as goal

pub merged-requires-clause-left : goal.merged-requires-clause-left
merged-requires-clause-left c = rw c.members.ensures (elements_ascend _ c.requires.left.value)

pub merged-requires-clause-right : goal.merged-requires-clause-right
merged-requires-clause-right c = rw c.members-2.ensures (elements_ascend _ c.requires.right.value)

pub returns-clause-kept : goal.returns-clause-kept
returns-clause-kept c = union_kept _ _ _ c.requires.left c.requires.right (rw (c.members.ensures, c.members-2.ensures) at c.merged.ensures)

pub returns-clause-members : goal.returns-clause-members
returns-clause-members c = union_law _ _ _ (rw (c.members.ensures, c.members-2.ensures) at c.merged.ensures)
