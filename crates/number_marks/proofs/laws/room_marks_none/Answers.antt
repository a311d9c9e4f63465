use Rattle.number_marks.specs.MarkingLaws.{room_none, room_given_up, room_filled, room_enough}
use Rattle.number_marks.proofs.laws.room_marks_none.Goals as goal

pub returns-clause-none : goal.returns-clause-none
returns-clause-none c = room_none

pub returns-clause-given_up : goal.returns-clause-given_up
returns-clause-given_up c = room_given_up

pub returns-clause-filled : goal.returns-clause-filled
returns-clause-filled c = room_filled

pub returns-clause-enough : goal.returns-clause-enough
returns-clause-enough c = room_enough
