use Rattle.b_rows.proofs.values.combine.Goals as goal

pub returns-clause-value : goal.returns-clause-value
returns-clause-value c = c.at_place.ensures.value _ c.binary.ensures.value
