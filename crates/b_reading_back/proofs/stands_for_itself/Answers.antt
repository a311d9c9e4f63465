-- The induction over trees.
use Rattle.b_reading_back.proofs.Reading.{itself}
use Rattle.b_reading_back.proofs.stands_for_itself.Goals as goal

pub returns : goal.returns
returns c = itself
