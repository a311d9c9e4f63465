use Rattle.type_count.proofs.counting.+spend.Given as goal

abbrev pub decreases-spend : goal.decreases-spend
decreases-spend l = l.budget
