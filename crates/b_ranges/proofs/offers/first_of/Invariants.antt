use Rattle.std.proofs.Common.{◌≡◌, drop}
use Rattle.b_ranges.specs.Ranges as spec
use Rattle.b_ranges.proofs.offers.first_of.Given as goal

-- what is the first of the rest, is the first
abbrev pub invariant-loop-number : goal.invariant-loop-number
invariant-loop-number l = spec.first l.number l.kind l.variable (drop l.number l.conjuncts) ≡ spec.first 0 l.kind l.variable l.conjuncts
