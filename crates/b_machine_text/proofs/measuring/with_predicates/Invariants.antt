use Rattle.std.proofs.Common.{◌≡◌, drop}
use Rattle.b_machine_text.specs.Machines.{added, with_formula, expanded_predicate}
use Rattle.b_machine_text.proofs.measuring.with_predicates.Given as goal

-- what is found, and then the rest
abbrev pub invariant-loop-formula : goal.invariant-loop-formula
invariant-loop-formula l = added with_formula (expanded_predicate l.defs.formulas.table.now.defs) l.found (drop l.formula-index l.formulas) ≡ added with_formula (expanded_predicate l.defs.formulas.table.now.defs) l.fn.size l.formulas
