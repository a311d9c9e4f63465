use Rattle.b_rows.proofs.values.power.Goals as goal

pub returns-clause-value : goal.returns-clause-value
returns-clause-value c = c.at_place.ensures.value _ (rw c.raised.ensures.value at c.plain.ensures.value)
