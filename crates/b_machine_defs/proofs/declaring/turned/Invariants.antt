use Rattle.std.proofs.Common.{◌≡◌, ◌++◌, reverse, length}
use Rattle.b_machine_defs.specs.Declaring.{all_as}
use Rattle.b_machine_defs.proofs.declaring.turned.Given as goal

-- those that are left, and then those that were found from behind
abbrev pub invariant-loop-def : goal.invariant-loop-def
invariant-loop-def l = all_as l.kinds 0 l.left ++ reverse l.found.items ≡ all_as l.kinds 0 l.fn.defs

abbrev pub decreases-loop-def : goal.decreases-loop-def
decreases-loop-def l = length l.left
