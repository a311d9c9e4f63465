use Rattle.std.proofs.Common.{◌≡◌, ◌+◌, ◌++◌, length, drop}
use Rattle.b_values.specs.Reading.{numbered}
use Rattle.b_sequences.specs.Sequences.{seconds}
use Rattle.b_sequences.proofs.numbering.push_parts.Given as goal

abbrev pub invariant-loop-couple : goal.invariant-loop-couple
invariant-loop-couple l =
    l.all ++ numbered (length l.all + 1) (seconds (drop l.couple-index l.more))
    ≡ l.initial.all ++ numbered (length l.initial.all + 1) (seconds l.initial.more)
