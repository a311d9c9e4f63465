use Rattle.std.proofs.Common.{length}
use Rattle.b_read_machine.proofs.Counting.{IsCounted}
use Rattle.b_read_machine.proofs.texts.count_in_definitions.Given as goal

-- so many lexemes are counted anew
abbrev pub invariant-loop-word : goal.invariant-loop-word
invariant-loop-word l = IsCounted l.words l.fn.lexemes l.lexemes l.rest l.inside l.count

abbrev pub decreases-loop-word : goal.decreases-loop-word
decreases-loop-word l = length l.rest
