use Rattle.std.proofs.Common.{◌≡◌, ◌+◌, ◌++◌, length, drop}
use Rattle.b_values.specs.Reading.{numbered}
use Rattle.b_rows.proofs.gathering.numbered_couples.Given as goal

abbrev pub invariant-loop-v : goal.invariant-loop-v
invariant-loop-v l = l.couples.items ++ numbered (length l.couples.items + 1) (drop l.v-index l.values) ≡ numbered 1 l.values
