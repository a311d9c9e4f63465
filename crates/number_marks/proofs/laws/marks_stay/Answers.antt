use Rattle.number_marks.specs.MarkingLaws.{mark_stays}
use Rattle.number_marks.proofs.laws.marks_stay.Goals as goal

pub returns : goal.returns
returns c = mark_stays
