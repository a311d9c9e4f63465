use Rattle.std.proofs.Common.{◌≡◌, drop, slice_get}
use Rattle.session_core.specs.Moving.{packed_steps}
use Rattle.session_core.proofs.lists.step_behind.Given as goal

abbrev pub invariant-loop-list : goal.invariant-loop-list
invariant-loop-list l = slice_get (packed_steps (drop l.list-index l.lists)) l.left ≡ slice_get (packed_steps l.lists) l.at
