use Rattle.std.proofs.Common.{◌∙◌, sym, arith}
use Rattle.number_marks.specs.MarkingLaws.{walk_marks, walk_room}
use Rattle.number_marks.proofs.marks.mark_each.Goals as goal

pub loop-number-preserved : goal.loop-number-preserved
loop-number-preserved c = record {
  marked =
      sym (walk_marks c.args.numbers.now c.loop-number.number-index 0 c.loop-number.marks.items c.mark_in.new.marks.items (omega arith) c.mark_in.ensures)
      ∙ c.loop-number.invariant.marked;
  within = walk_room c.args.numbers.now c.loop-number.number-index 0 c.loop-number.marks.items c.mark_in.new.marks.items (omega arith) c.mark_in.ensures c.loop-number.invariant.within;
}
