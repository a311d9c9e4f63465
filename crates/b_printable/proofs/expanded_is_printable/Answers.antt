-- The induction over trees and over the table of definitions.
use Rattle.b_printable.proofs.Expanding.{expanded_printable}
use Rattle.b_printable.proofs.expanded_is_printable.Goals as goal

pub returns : goal.returns
returns c = expanded_printable
