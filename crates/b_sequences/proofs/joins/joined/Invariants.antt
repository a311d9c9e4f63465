use Rattle.std.proofs.Common.{◌≡◌, drop}
use Rattle.std.specs.Option.{option_map}
use Rattle.b_values.specs.Reading.{numbered}
use Rattle.b_sequences.specs.Sequences.{seconds}
use Rattle.b_sequences.specs.Rows.{joined}
use Rattle.b_sequences.specs.Joining.{and_lists}
use Rattle.b_sequences.proofs.joins.joined.Given as goal

abbrev pub invariant-loop-couple : goal.invariant-loop-couple
invariant-loop-couple l = and_lists l.all (drop l.couple-index l.couples) ≡ option_map (numbered 1) (joined (seconds l.couples))
