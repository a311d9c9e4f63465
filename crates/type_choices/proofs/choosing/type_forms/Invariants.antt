use Rattle.std.proofs.Common.{length}
use Rattle.type_choices.proofs.Choices.{IsChoosing}
use Rattle.type_choices.proofs.choosing.type_forms.Given as goal

abbrev pub invariant-loop-rows : goal.invariant-loop-rows
invariant-loop-rows l = IsChoosing l.fn.limit l.fn.parts l.fn.rows.items l.fn.forms.items l.rows.items l.waiting.items

abbrev pub decreases-loop-rows : goal.decreases-loop-rows
decreases-loop-rows l = length l.waiting.items
