use Rattle.std.proofs.Common.{◌≡◌, ◌+◌, ◌++◌, length}
use Rattle.std.specs.Prelude.{reverse}
use Rattle.b_values.specs.Reading.{numbered}
use Rattle.b_sequences.specs.Sequences.{seconds}
use Rattle.b_sequences.proofs.numbering.turned.Given as goal

abbrev pub invariant-loop-couple : goal.invariant-loop-couple
invariant-loop-couple l =
    l.back ++ numbered (length l.back + 1) (seconds (reverse l.couple-iterator.iter.rest.now)) ≡ numbered 1 (seconds (reverse l.couples))
