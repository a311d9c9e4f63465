use Rattle.std.proofs.Common.{◌≡◌, ◌+◌, length}
use Rattle.std.specs.Option.{option_map}
use Rattle.b_lex.specs.Bytes.{before_close}
use Rattle.b_lex.proofs.words.close_at.Given as goal

-- what stands before the first `*/` of the rest, and the bytes so far
abbrev pub invariant-loop-rest : goal.invariant-loop-rest
invariant-loop-rest l = (option_map (λ n. l.at + n) (before_close l.rest) ≡ before_close l.text) × (l.at + length l.rest ≡ length l.text)

abbrev pub decreases-loop-rest : goal.decreases-loop-rest
decreases-loop-rest l = length l.rest
