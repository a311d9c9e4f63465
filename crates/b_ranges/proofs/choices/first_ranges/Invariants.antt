use Rattle.std.proofs.Common.{◌≡◌}
use Rattle.b_ranges.specs.Ranges as spec
use Rattle.b_ranges.proofs.choices.first_ranges.Given as goal

-- the ranges so far
abbrev pub invariant-loop-variable : goal.invariant-loop-variable
invariant-loop-variable l = l.list ≡ spec.first_ranges l.variable l.conjuncts
