use Rattle.std.proofs.Common.{◌≡◌, ◌+◌, ◌++◌, length}
use Rattle.b_values.specs.Reading.{numbered}
use Rattle.b_values.proofs.reading.sequence_of.Given as goal

abbrev pub invariant-loop-part : goal.invariant-loop-part
invariant-loop-part l = record {
  same : l.couples ++ numbered l.n l.part-iterator.rest.items ≡ numbered 1 l.fn.parts.items;
  count : l.n + length l.part-iterator.rest.items ≡ 1 + length l.fn.parts.items;
}
