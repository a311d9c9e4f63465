use Rattle.std.proofs.Common.{map}
use Rattle.b_expand.specs.Expansion.{all_of}
use Rattle.b_machine_text.specs.Machines.{expanded_predicate}
use Rattle.b_machine_text.proofs.Fitting.{built_none, predicates_on, predicates_rest, predicate_last}
use Rattle.b_machine_text.proofs.building.turned_predicates.Goals as goal

pub loop-formula-init : goal.loop-formula-init
loop-formula-init c = record {
  fits = c.requires.fits;
  found = built_none (expanded_predicate c.args.defs.now.formulas.table.now.defs) c.args.formulas c.new-found.result.items c.new-found.ensures.items;
}

-- one more from behind
pub loop-formula-preserved : goal.loop-formula-preserved
loop-formula-preserved c = record {
  fits = predicates_rest c.args.defs.now.formulas.table.now.defs c.loop-formula.left c.pop.new.self c.in-Some.formula c.in-Some.ensures c.loop-formula.invariant.fits;
  found = predicates_on c.args.defs.now.formulas.table.now.defs c.loop-formula.left c.pop.new.self c.in-Some.formula c.in_ok-built.built c.loop-formula.found.items _ (all_of (map (expanded_predicate c.args.defs.now.formulas.table.now.defs) c.args.formulas)) c.loop-formula.invariant.found c.in-Some.ensures c.in_ok-built.ensures c.in_ok-push.ensures.items;
}

pub built_predicate-requires-clause-fits : goal.built_predicate-requires-clause-fits
built_predicate-requires-clause-fits c = predicate_last c.args.defs.now.formulas.table.now.defs c.loop-formula.left c.pop.new.self c.in-Some.formula c.in-Some.ensures c.loop-formula.invariant.fits
