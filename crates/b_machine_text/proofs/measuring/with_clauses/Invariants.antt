use Rattle.std.proofs.Common.{◌≡◌, drop}
use Rattle.b_machine_text.specs.Machines.{added, with_size_of, expanded_clause}
use Rattle.b_machine_text.proofs.measuring.with_clauses.Given as goal

-- what is found, and then the rest
abbrev pub invariant-loop-clause : goal.invariant-loop-clause
invariant-loop-clause l = added with_size_of (expanded_clause l.defs.formulas.table.now.defs) l.found (drop l.clause-index l.clauses) ≡ added with_size_of (expanded_clause l.defs.formulas.table.now.defs) l.fn.size l.clauses
