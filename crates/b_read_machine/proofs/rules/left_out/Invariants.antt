use Rattle.std.proofs.Common.{◌≡◌, length}
use Rattle.b_stretches.specs.Stretches.{pieces, zipped}
use Rattle.b_read_machine.specs.Rules.{has_left_out}
use Rattle.b_read_machine.proofs.rules.left_out.Given as goal

-- what is left decides
abbrev pub invariant-loop-word : goal.invariant-loop-word
invariant-loop-word l = has_left_out (pieces l.rest) ≡ has_left_out (zipped l.words l.lexemes)

abbrev pub decreases-loop-word : goal.decreases-loop-word
decreases-loop-word l = length (pieces l.rest)
