use Rattle.std.proofs.Common.{map}
use Rattle.b_expand.specs.Expansion.{all_of}
use Rattle.b_machine_text.specs.Machines.{expanded_operation}
use Rattle.b_machine_text.proofs.Fitting.{built_none, operations_on, operations_rest, operation_last}
use Rattle.b_machine_text.proofs.building.turned_operations.Goals as goal

pub loop-next-init : goal.loop-next-init
loop-next-init c = record {
  fits = c.requires.fits;
  found = built_none (expanded_operation c.args.defs.now.formulas.table.now.defs) c.args.operations c.new-found.result.items c.new-found.ensures.items;
}

-- one more from behind
pub loop-next-preserved : goal.loop-next-preserved
loop-next-preserved c = record {
  fits = operations_rest c.args.defs.now.formulas.table.now.defs c.loop-next.left c.pop.new.self c.in-Some.next c.in-Some.ensures c.loop-next.invariant.fits;
  found = operations_on c.args.defs.now.formulas.table.now.defs c.loop-next.left c.pop.new.self c.in-Some.next c.in_ok-built.built c.loop-next.found.items _ (all_of (map (expanded_operation c.args.defs.now.formulas.table.now.defs) c.args.operations)) c.loop-next.invariant.found c.in-Some.ensures c.in_ok-built.ensures c.in_ok-push.ensures.items;
}

pub built_operation-requires-clause-fits : goal.built_operation-requires-clause-fits
built_operation-requires-clause-fits c = operation_last c.args.defs.now.formulas.table.now.defs c.loop-next.left c.pop.new.self c.in-Some.next c.in-Some.ensures c.loop-next.invariant.fits
