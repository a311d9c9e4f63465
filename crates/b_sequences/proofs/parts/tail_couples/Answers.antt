use Rattle.b_sequences.specs.Rows.{all_but_first}
use Rattle.b_sequences.proofs.Steps.{chained}
use Rattle.b_sequences.proofs.parts.tail_couples.Goals as goal

pub returns-in-Some : goal.returns-in-Some
returns-in-Some c = chained all_but_first _ _ _ c.in-Some.ensures c.but_first.ensures
