use Rattle.std.proofs.Common.{◌≡◌, ◌-◌, length, take}
use Rattle.number_marks.specs.Marking.{with_room}
use Rattle.number_marks.proofs.marks.grow.Given as goal

abbrev pub invariant-loop-marks : goal.invariant-loop-marks
invariant-loop-marks l = record {
  room : with_room l.room l.marks.items ≡ with_room l.room l.fn.marks.items;
  front : take (length l.fn.marks.items) l.marks.items ≡ l.fn.marks.items;
}

abbrev pub decreases-loop-marks : goal.decreases-loop-marks
decreases-loop-marks l = l.room - length l.marks.items
