use Rattle.std.proofs.Common.{◌≡◌, drop, false}
use Rattle.b_values.specs.ReadingDescent.{string_from}
use Rattle.b_values.proofs.ReadingSteps.{behind}
use Rattle.b_values.proofs.reading.string_at.Given as goal

abbrev pub invariant-loop-to : goal.invariant-loop-to
invariant-loop-to l = string_from false (drop l.at l.text) ≡ behind l.bytes (string_from l.is_escaping (drop l.to l.text))
