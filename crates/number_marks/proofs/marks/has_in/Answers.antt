use Rattle.std.proofs.Common.{sym}
use Rattle.number_marks.specs.MarkingLaws.{mark_some, mark_none}
use Rattle.number_marks.proofs.marks.has_in.Goals as goal

pub returns-in-Some : goal.returns-in-Some
returns-in-Some c = sym (mark_some c.args.marks.now c.args.number c.in-Some.mark.now (sym c.in-Some.ensures))

pub returns-in-None : goal.returns-in-None
returns-in-None c = sym (mark_none c.args.marks.now c.args.number (sym c.in-None.ensures))
