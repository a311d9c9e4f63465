use Rattle.std.proofs.Common.{◌≡◌, length}
use Rattle.b_stretches.specs.Stretches.{pieces}
use Rattle.b_read_machine.specs.Texts.{is_deep}
use Rattle.b_read_machine.proofs.texts.first_deep.Given as goal

-- what is left decides
abbrev pub invariant-loop-lexeme : goal.invariant-loop-lexeme
invariant-loop-lexeme l = is_deep (pieces l.rest) ≡ is_deep (pieces l.s)

abbrev pub decreases-loop-lexeme : goal.decreases-loop-lexeme
decreases-loop-lexeme l = length (pieces l.rest)
