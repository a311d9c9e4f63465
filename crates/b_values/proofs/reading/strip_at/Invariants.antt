use Rattle.std.proofs.Common.{◌≡◌, ◌≤◌, length, drop}
use Rattle.b_values.specs.ReadingDescent.{strip}
use Rattle.b_values.proofs.reading.strip_at.Given as goal

abbrev pub invariant-loop-b : goal.invariant-loop-b
invariant-loop-b l = record {
  inside : l.to ≤ length l.text;
  since : l.at ≤ l.to;
  same : strip l.sign (drop l.at l.text) ≡ strip (drop l.b-index l.sign) (drop l.to l.text);
}
