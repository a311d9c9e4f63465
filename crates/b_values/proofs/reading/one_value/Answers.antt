use Rattle.b_values.proofs.ReadingWhole.{one_value}
use Rattle.b_values.proofs.reading.one_value.Goals as goal

pub returns : goal.returns
returns c = λ sets t text v w h k. one_value sets t text v w h k
