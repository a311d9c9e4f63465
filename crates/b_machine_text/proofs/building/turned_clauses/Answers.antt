use Rattle.std.proofs.Common.{map}
use Rattle.b_expand.specs.Expansion.{all_of}
use Rattle.b_machine_text.specs.Machines.{expanded_clause}
use Rattle.b_machine_text.proofs.Fitting.{built_none, clauses_on, clauses_rest, clause_last}
use Rattle.b_machine_text.proofs.building.turned_clauses.Goals as goal

pub loop-next-init : goal.loop-next-init
loop-next-init c = record {
  fits = c.requires.fits;
  found = built_none (expanded_clause c.args.defs.now.formulas.table.now.defs) c.args.clauses.items c.new-found.result.items c.new-found.ensures.items;
}

-- one more from behind
pub loop-next-preserved : goal.loop-next-preserved
loop-next-preserved c = record {
  fits = clauses_rest c.args.defs.now.formulas.table.now.defs c.loop-next.left.items c.pop.new.self.items c.in-Some.next c.in-Some.ensures.items c.loop-next.invariant.fits;
  found = clauses_on c.args.defs.now.formulas.table.now.defs c.loop-next.left.items c.pop.new.self.items c.in-Some.next c.in_ok-built.built c.loop-next.found.items _ (all_of (map (expanded_clause c.args.defs.now.formulas.table.now.defs) c.args.clauses.items)) c.loop-next.invariant.found c.in-Some.ensures.items c.in_ok-built.ensures c.in_ok-push.ensures.items;
}

pub built_clause-requires-clause-fits : goal.built_clause-requires-clause-fits
built_clause-requires-clause-fits c = clause_last c.args.defs.now.formulas.table.now.defs c.loop-next.left.items c.pop.new.self.items c.in-Some.next c.in-Some.ensures.items c.loop-next.invariant.fits
