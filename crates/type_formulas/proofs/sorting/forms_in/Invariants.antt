use Rattle.std.proofs.Common.{◌≡◌, ◌++◌, drop}
use Rattle.type_formulas.specs.Typings.{forms_in}
use Rattle.type_formulas.proofs.sorting.forms_in.Given as goal

-- what is taken, and what is left
abbrev pub invariant-loop-demand : goal.invariant-loop-demand
invariant-loop-demand l = l.forms.items ++ forms_in (drop l.demand-index l.demands) ≡ forms_in l.demands
