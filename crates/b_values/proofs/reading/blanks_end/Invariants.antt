use Rattle.std.proofs.Common.{◌≡◌, drop}
use Rattle.b_values.specs.ReadingDescent.{skip}
use Rattle.b_values.proofs.reading.blanks_end.Given as goal

abbrev pub invariant-loop-to : goal.invariant-loop-to
invariant-loop-to l = skip (drop l.to l.text) ≡ skip (drop l.at l.text)
