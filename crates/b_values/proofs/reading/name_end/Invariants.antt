use Rattle.std.proofs.Common.{◌≡◌, drop}
use Rattle.b_values.specs.Reading.{is_name_byte}
use Rattle.b_values.specs.ReadingDescent.{past}
use Rattle.b_values.proofs.reading.name_end.Given as goal

abbrev pub invariant-loop-to : goal.invariant-loop-to
invariant-loop-to l = past is_name_byte (drop l.to l.text) ≡ past is_name_byte (drop l.at l.text)
