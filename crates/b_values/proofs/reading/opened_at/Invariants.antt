use Rattle.std.proofs.Common.{◌≡◌, ◌+◌, ◌-◌, drop}
use Rattle.b_values.specs.ReadingDescent.{opened}
use Rattle.b_values.specs.ReadingAnswers.{IsPlace}
use Rattle.b_values.proofs.reading.opened_at.Given as goal

abbrev pub invariant-loop-count : goal.invariant-loop-count
invariant-loop-count l = record {
  place : IsPlace l.text l.at l.to;
  same : opened l.limit (drop l.at l.text) ≡ (l.count + (opened (l.limit - l.count) (drop l.to l.text)).0, (opened (l.limit - l.count) (drop l.to l.text)).1);
}
