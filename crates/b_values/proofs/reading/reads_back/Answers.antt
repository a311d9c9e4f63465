use Rattle.b_values.proofs.TextRound.{reads_back}
use Rattle.b_values.proofs.reading.reads_back.Goals as goal

pub returns : goal.returns
returns c = reads_back
