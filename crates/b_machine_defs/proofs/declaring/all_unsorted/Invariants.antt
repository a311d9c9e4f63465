use Rattle.std.proofs.Common.{◌≡◌, ◌++◌, reverse, length, map}
use Rattle.b_machine_defs.specs.Declaring.{unsorted}
use Rattle.b_machine_defs.proofs.declaring.all_unsorted.Given as goal

-- those so far, and then those that are left, from behind
abbrev pub invariant-loop-text : goal.invariant-loop-text
invariant-loop-text l = l.defs ++ map unsorted (reverse l.left.items) ≡ map unsorted (reverse l.fn.texts.items)

abbrev pub decreases-loop-text : goal.decreases-loop-text
decreases-loop-text l = length l.left.items
