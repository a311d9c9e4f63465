use Rattle.b_values.specs.ValueLaws.{elements_ascend}
use Rattle.b_sets.proofs.RowLaws.{difference_law, difference_kept}
use Rattle.b_sets.proofs.pairs.difference.Goals as goal

pub others-requires-clause-left : goal.others-requires-clause-left
others-requires-clause-left c = rw c.members.ensures (elements_ascend _ c.requires.left.value)

pub others-requires-clause-right : goal.others-requires-clause-right
others-requires-clause-right c = rw c.members-2.ensures (elements_ascend _ c.requires.right.value)

pub returns-clause-kept : goal.returns-clause-kept
returns-clause-kept c = difference_kept _ _ _ c.requires.left (rw (c.members.ensures, c.members-2.ensures) at c.others.ensures)

pub returns-clause-members : goal.returns-clause-members
returns-clause-members c = difference_law _ _ _ (rw (c.members.ensures, c.members-2.ensures) at c.others.ensures)
