use Rattle.std.proofs.Common.{◌≡◌, ◌++◌, length}
use Rattle.session_words.specs.Replies.{named_values}
use Rattle.session_text.proofs.replies.add_named.Given as goal

abbrev pub invariant-loop-rest : goal.invariant-loop-rest
invariant-loop-rest l = l.out ++ named_values l.face l.rest l.left ≡ l.fn.out ++ named_values l.face l.names l.values

abbrev pub decreases-loop-rest : goal.decreases-loop-rest
decreases-loop-rest l = length l.rest
