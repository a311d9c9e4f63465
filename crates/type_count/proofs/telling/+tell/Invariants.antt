use Rattle.type_count.proofs.telling.+tell.Given as goal

abbrev pub decreases-tell : goal.decreases-tell
decreases-tell l = l.budget
