use Rattle.std.proofs.Common.{◌≡◌, ◌≤◌, drop, nat_lt}
use Rattle.b_values.specs.ReadingDescent.{magnitude}
use Rattle.b_values.proofs.ReadingSteps.{amount}
use Rattle.b_values.proofs.reading.magnitude_at.Given as goal

abbrev pub invariant-loop-to : goal.invariant-loop-to
invariant-loop-to l = record {
  small : l.n ≤ l.most;
  same : magnitude l.most (drop l.at l.text) ≡ amount l.most (nat_lt l.at l.to) l.n (drop l.to l.text);
}
