-- What is printable is read back.
use Rattle.b_printable.proofs.Grammatical.{read_as_written}
use Rattle.b_printable.proofs.Again.{read_back_whole}
use Rattle.b_printable.proofs.parsed_is_read_back.Goals as goal

pub returns : goal.returns
returns c = read_back_whole read_as_written
