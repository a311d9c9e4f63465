use Rattle.operator_rows.proofs.expressions.+begun.Given as goal

abbrev pub decreases-begun : goal.decreases-begun
decreases-begun l = l.depth
