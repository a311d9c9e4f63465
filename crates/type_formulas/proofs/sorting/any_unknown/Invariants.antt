use Rattle.std.proofs.Common.{◌≡◌, drop}
use Rattle.type_formulas.specs.Typings.{any_unknown}
use Rattle.type_formulas.proofs.sorting.any_unknown.Given as goal

abbrev pub invariant-loop-demand : goal.invariant-loop-demand
invariant-loop-demand l = any_unknown (drop l.demand-index l.demands) ≡ any_unknown l.demands
