use Rattle.number_marks.specs.MarkingLaws.{marked_by}
use Rattle.number_marks.proofs.laws.marked_alone.Goals as goal

pub returns : goal.returns
returns c = marked_by
