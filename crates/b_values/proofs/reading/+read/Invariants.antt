use Rattle.std.proofs.Common.{◌≡◌, ◌+◌, ◌*◌, ◌-◌, length}
use Rattle.b_values.specs.Reading.{free}
use Rattle.b_values.specs.ReadingDescent.{front, reader}
use Rattle.b_values.proofs.ReadingSize.{size}
use Rattle.b_values.proofs.ReadingSteps.{IsReading}
use Rattle.b_values.proofs.reading.+read.Given as goal

abbrev pub decreases-read_chain : goal.decreases-read_chain
decreases-read_chain l = 6 * size l.ty.now + 1

abbrev pub decreases-read_front : goal.decreases-read_front
decreases-read_front l = 6 * size l.ty.now + 2

abbrev pub decreases-read_after_comma : goal.decreases-read_after_comma
decreases-read_after_comma l = 6 * size l.ty.now + 3

abbrev pub decreases-read_second : goal.decreases-read_second
decreases-read_second l = 6 * size l.ty.now + 4

abbrev pub decreases-read_pieces : goal.decreases-read_pieces
decreases-read_pieces l = 6 * size l.ty.now + 3

abbrev pub decreases-read_list : goal.decreases-read_list
decreases-read_list l = 6 * size l.ty.now + 4

abbrev pub decreases-read_sequence : goal.decreases-read_sequence
decreases-read_sequence l = 6 * size l.ty.now + 5

abbrev pub decreases-read_set : goal.decreases-read_set
decreases-read_set l = 6 * size l.ty.now + 5

abbrev pub invariant-read_pieces-loop-values : goal.invariant-read_pieces-loop-values
invariant-read_pieces-loop-values l = IsReading (front free (reader l.sets l.ty).chain l.depth) l.text l.at l.values.items l.from

abbrev pub decreases-read_pieces-loop-values : goal.decreases-read_pieces-loop-values
decreases-read_pieces-loop-values l = length l.text - l.from
