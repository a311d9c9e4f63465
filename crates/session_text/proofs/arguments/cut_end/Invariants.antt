use Rattle.std.proofs.Common.{◌≡◌, length}
use Rattle.session_words.specs.Arguments.{without_end}
use Rattle.session_text.proofs.arguments.cut_end.Given as goal

abbrev pub invariant-loop-rest : goal.invariant-loop-rest
invariant-loop-rest l = without_end l.rest ≡ without_end l.bytes

abbrev pub decreases-loop-rest : goal.decreases-loop-rest
decreases-loop-rest l = length l.rest
