use Rattle.b_values.specs.ValueLaws.{elements_ascend}
use Rattle.b_sets.proofs.CoupleLaws.{times_law, times_kept, few_nodes}
use Rattle.b_sets.proofs.products.times.Goals as goal

pub product-requires-clause-first : goal.product-requires-clause-first
product-requires-clause-first c = rw c.members.ensures (elements_ascend _ c.requires.left.value)

pub product-requires-clause-second : goal.product-requires-clause-second
product-requires-clause-second c = rw c.members-2.ensures (elements_ascend _ c.requires.right.value)

pub product-requires-clause-left : goal.product-requires-clause-left
product-requires-clause-left c = rw c.members.ensures (few_nodes _ c.requires.left)

pub product-requires-clause-right : goal.product-requires-clause-right
product-requires-clause-right c = rw c.members-2.ensures (few_nodes _ c.requires.right)

pub returns-clause-kept : goal.returns-clause-kept
returns-clause-kept c = times_kept _ _ _ c.requires.left c.requires.right (rw (c.members.ensures, c.members-2.ensures) at c.product.ensures)

pub returns-clause-members : goal.returns-clause-members
returns-clause-members c = times_law _ _ _ (rw (c.members.ensures, c.members-2.ensures) at c.product.ensures)
