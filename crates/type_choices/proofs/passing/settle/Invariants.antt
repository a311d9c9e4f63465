use Rattle.std.proofs.Common.{length}
use Rattle.type_choices.specs.Passing.{Carries}
use Rattle.type_choices.proofs.passing.settle.Given as goal

abbrev pub invariant-loop-kept : goal.invariant-loop-kept
invariant-loop-kept l = Carries l.fn.rows.items l.rows.items l.fn.forms.items l.waiting.items

abbrev pub decreases-loop-kept : goal.decreases-loop-kept
decreases-loop-kept l = length l.waiting.items
