use Rattle.std.proofs.Common.{◌≡◌, map, length, reverse}
use Rattle.b_expand.specs.Expansion.{all_of}
use Rattle.b_machine_text.specs.Limits.{AreClausesWithin}
use Rattle.b_machine_text.specs.Machines.{expanded_clause}
use Rattle.b_machine_text.proofs.Fitting.{before}
use Rattle.b_machine_text.proofs.building.turned_clauses.Given as goal

-- what is left fits, and stands before what was found from behind
abbrev pub invariant-loop-next : goal.invariant-loop-next
invariant-loop-next l = record {
  fits : AreClausesWithin l.defs.formulas.table.now.defs l.left.items;
  found : before (all_of (map (expanded_clause l.defs.formulas.table.now.defs) l.left.items)) (reverse l.found.items) ≡ all_of (map (expanded_clause l.defs.formulas.table.now.defs) l.fn.clauses.items);
}

abbrev pub decreases-loop-next : goal.decreases-loop-next
decreases-loop-next l = length l.left.items
