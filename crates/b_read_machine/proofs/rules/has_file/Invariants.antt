use Rattle.std.proofs.Common.{◌≡◌, length}
use Rattle.b_stretches.specs.Stretches.{pieces}
use Rattle.b_read_machine.specs.Rules.{has_file}
use Rattle.b_read_machine.proofs.rules.has_file.Given as goal

-- what is left decides
abbrev pub invariant-loop-word : goal.invariant-loop-word
invariant-loop-word l = has_file l.depth l.fresh (pieces l.rest) ≡ has_file l.depth l.begins (pieces l.s)

abbrev pub decreases-loop-word : goal.decreases-loop-word
decreases-loop-word l = length (pieces l.rest)
