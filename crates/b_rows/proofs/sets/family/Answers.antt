use Rattle.b_rows.proofs.sets.family.Goals as goal

pub returns-clause-value : goal.returns-clause-value
returns-clause-value c = c.at_place.ensures.value _ c.sets_over.ensures.value
