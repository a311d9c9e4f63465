use Rattle.b_rows.proofs.sets.set.Goals as goal

pub returns-clause-value : goal.returns-clause-value
returns-clause-value c = c.at_place.ensures.value _ c.set_between.ensures.value
