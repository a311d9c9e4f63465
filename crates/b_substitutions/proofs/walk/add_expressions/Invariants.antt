use Rattle.std.proofs.Common.{◌≡◌, drop}
use Rattle.b_substitutions.specs.Standing.{expressions_in}
use Rattle.b_substitutions.proofs.walk.add_expressions.Given as goal

-- what is found, and then the rest
abbrev pub invariant-loop-formula : goal.invariant-loop-formula
invariant-loop-formula l = expressions_in l.text (drop l.formula-index l.formulas) l.found ≡ expressions_in l.text l.formulas l.fn.parts
