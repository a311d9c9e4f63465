use Rattle.b_machine_text.proofs.Predicates.{predicate_shallow, predicate_if_ok}
use Rattle.b_machine_text.proofs.building.built_predicate.Goals as goal

pub expanded-requires-clause-shallow : goal.expanded-requires-clause-shallow
expanded-requires-clause-shallow c = predicate_shallow c.args.defs.now.formulas.table.now.defs c.as_slice.result.now c.as_slice.ensures c.args.formula c.requires.fits

pub returns : goal.returns
returns c = predicate_if_ok c.args.defs.now.formulas.table.now.defs c.as_slice.result.now c.as_slice.ensures c.args.formula c.requires.fits c.expanded.result c.expanded.ensures.expands
