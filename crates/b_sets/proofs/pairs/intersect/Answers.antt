use Rattle.b_values.specs.ValueLaws.{elements_ascend}
use Rattle.b_sets.proofs.RowLaws.{intersect_law, intersect_kept}
use Rattle.b_sets.proofs.pairs.intersect.Goals as goal

pub intersection-requires-clause-left : goal.intersection-requires-clause-left
intersection-requires-clause-left c = rw c.members.ensures (elements_ascend _ c.requires.left.value)

pub intersection-requires-clause-right : goal.intersection-requires-clause-right
intersection-requires-clause-right c = rw c.members-2.ensures (elements_ascend _ c.requires.right.value)

pub returns-clause-kept : goal.returns-clause-kept
returns-clause-kept c = intersect_kept _ _ _ c.requires.left (rw (c.members.ensures, c.members-2.ensures) at c.intersection.ensures)

pub returns-clause-members : goal.returns-clause-members
returns-clause-members c = intersect_law _ _ _ (rw (c.members.ensures, c.members-2.ensures) at c.intersection.ensures)
