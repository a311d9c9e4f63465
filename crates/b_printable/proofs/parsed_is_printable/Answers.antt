-- A text is read as a written tree, which expands to a printable one.
use Rattle.b_printable.proofs.Grammatical.{read_as_written}
use Rattle.b_printable.proofs.Again.{parsed_printable}
use Rattle.b_printable.proofs.parsed_is_printable.Goals as goal

pub returns : goal.returns
returns c = parsed_printable read_as_written
