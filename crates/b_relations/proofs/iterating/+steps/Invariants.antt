use Rattle.b_relations.proofs.iterating.+steps.Given as goal

abbrev pub decreases-steps : goal.decreases-steps
decreases-steps l = l.times
