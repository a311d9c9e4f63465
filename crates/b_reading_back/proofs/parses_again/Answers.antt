-- The parser's answer is the formula that was printed.
use Rattle.b_reading_back.proofs.Again.{parsed_again}
use Rattle.b_reading_back.proofs.parses_again.Goals as goal

pub returns : goal.returns
returns c = parsed_again
