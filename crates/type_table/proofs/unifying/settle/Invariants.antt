use Rattle.std.proofs.Common.{◌+◌, ◌*◌, length}
use Rattle.type_table.specs.Unifying.{classes}
use Rattle.type_table.proofs.Settling.{Settling}
use Rattle.type_table.proofs.unifying.settle.Given as goal

abbrev pub invariant-loop-p : goal.invariant-loop-p
invariant-loop-p l = Settling l.fn.rows l.fn.equations.items l.rows l.equations.items

abbrev pub decreases-loop-p : goal.decreases-loop-p
decreases-loop-p l = 2 * classes l.rows + length l.equations.items
