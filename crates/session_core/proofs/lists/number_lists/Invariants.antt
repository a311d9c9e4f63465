use Rattle.std.proofs.Common.{◌≡◌, ◌++◌, drop}
use Rattle.session_core.specs.Moving.{numbered_lists}
use Rattle.session_core.proofs.lists.number_lists.Given as goal

abbrev pub invariant-loop-list : goal.invariant-loop-list
invariant-loop-list l = l.all ++ numbered_lists (drop l.list-index l.lists) l.left ≡ numbered_lists l.lists l.numbers
