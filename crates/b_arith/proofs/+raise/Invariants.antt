use Rattle.b_arith.proofs.+raise.Given as goal

-- the exponent is halved
abbrev pub decreases-raise : goal.decreases-raise
decreases-raise l = l.exponent
