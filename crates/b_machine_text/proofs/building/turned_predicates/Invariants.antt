use Rattle.std.proofs.Common.{◌≡◌, map, length, reverse}
use Rattle.b_expand.specs.Expansion.{all_of}
use Rattle.b_machine_text.specs.Limits.{ArePredicatesWithin}
use Rattle.b_machine_text.specs.Machines.{expanded_predicate}
use Rattle.b_machine_text.proofs.Fitting.{before}
use Rattle.b_machine_text.proofs.building.turned_predicates.Given as goal

-- what is left fits, and stands before what was found from behind
abbrev pub invariant-loop-formula : goal.invariant-loop-formula
invariant-loop-formula l = record {
  fits : ArePredicatesWithin l.defs.formulas.table.now.defs l.left;
  found : before (all_of (map (expanded_predicate l.defs.formulas.table.now.defs) l.left)) (reverse l.found.items) ≡ all_of (map (expanded_predicate l.defs.formulas.table.now.defs) l.fn.formulas);
}

abbrev pub decreases-loop-formula : goal.decreases-loop-formula
decreases-loop-formula l = length l.left
