-- The induction over the number of open brackets.
use Rattle.b_printable.proofs.Grammatical as grammatical
use Rattle.b_printable.proofs.read_as_written.Goals as goal

pub returns : goal.returns
returns c = grammatical.read_as_written
