use Rattle.std.proofs.Common.{◌≡◌, drop}
use Rattle.b_use_forms.specs.Standing.{expressions_in}
use Rattle.b_use_forms.proofs.substitutions.are_expressions.Given as goal

-- what is left decides
abbrev pub invariant-loop-formula : goal.invariant-loop-formula
invariant-loop-formula l = expressions_in l.text (drop l.formula-index l.formulas) ≡ expressions_in l.text l.formulas
