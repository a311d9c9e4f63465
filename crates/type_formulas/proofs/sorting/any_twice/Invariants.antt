use Rattle.std.proofs.Common.{◌≡◌, drop}
use Rattle.type_formulas.specs.Typings.{any_twice}
use Rattle.type_formulas.proofs.sorting.any_twice.Given as goal

abbrev pub invariant-loop-demand : goal.invariant-loop-demand
invariant-loop-demand l = any_twice (drop l.demand-index l.demands) ≡ any_twice l.demands
