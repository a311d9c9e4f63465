use Rattle.std.proofs.Common.{length}
use Rattle.type_choices.proofs.Walks.{IsPassing}
use Rattle.type_choices.proofs.passing.pass.Given as goal

abbrev pub invariant-loop-form : goal.invariant-loop-form
invariant-loop-form l = IsPassing l.fn.rows.items l.fn.waiting.items l.rows.items l.waiting.items l.kept.items

abbrev pub decreases-loop-form : goal.decreases-loop-form
decreases-loop-form l = length l.waiting.items
