use Rattle.std.proofs.Common.{◌≡◌, drop, false}
use Rattle.b_grammar.specs.Descent.{is_among}
use Rattle.b_read_expr.proofs.steps.is_among.Given as goal

-- the priorities behind this place decide
abbrev pub invariant-loop-one : goal.invariant-loop-one
invariant-loop-one l = is_among (drop l.one-index l.levels) l.found l.level ≡ is_among l.levels false l.level
