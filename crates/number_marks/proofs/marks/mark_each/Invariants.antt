use Rattle.std.proofs.Common.{◌≡◌, ◌≤◌, drop, length}
use Rattle.number_marks.specs.Marking.{with_marks, past_all}
use Rattle.number_marks.proofs.marks.mark_each.Given as goal

abbrev pub invariant-loop-number : goal.invariant-loop-number
invariant-loop-number l = record {
  marked : with_marks (drop l.number-index l.numbers) l.marks.items ≡ with_marks l.numbers l.fn.marks.items;
  within : past_all (drop l.number-index l.numbers) ≤ length l.marks.items;
}
