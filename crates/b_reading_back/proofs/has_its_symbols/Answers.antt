-- The induction over trees, by texts.
use Rattle.b_reading_back.proofs.Back.{has_symbols}
use Rattle.b_reading_back.proofs.has_its_symbols.Goals as goal

pub returns : goal.returns
returns c = has_symbols
