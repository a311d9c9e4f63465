-- Operator by operator.
use Rattle.b_reading_back.proofs.Reading.{same_priority}
use Rattle.b_reading_back.proofs.priorities_agree.Goals as goal

pub returns : goal.returns
returns c = same_priority
