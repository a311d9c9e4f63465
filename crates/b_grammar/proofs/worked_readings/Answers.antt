-- The readings, by computation.
use Rattle.b_grammar.proofs.Readings.{readings}
use Rattle.b_grammar.proofs.worked_readings.Goals as goal

pub returns : goal.returns
returns c = readings
