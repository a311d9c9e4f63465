use Rattle.b_sequences.specs.Rows.{all_but_last}
use Rattle.b_sequences.proofs.Steps.{chained}
use Rattle.b_sequences.proofs.parts.front_couples.Goals as goal

pub returns-in-Some : goal.returns-in-Some
returns-in-Some c = chained all_but_last _ _ _ c.in-Some.ensures c.but_last.ensures
