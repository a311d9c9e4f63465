use Rattle.b_sequences.specs.Rows.{joined}
use Rattle.b_sequences.proofs.Steps.{chained}
use Rattle.b_sequences.proofs.joins.couples_of_all.Goals as goal

pub returns-in-Some : goal.returns-in-Some
returns-in-Some c = chained joined _ _ _ c.in-Some.ensures c.joined.ensures
