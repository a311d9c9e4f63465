use Rattle.b_substitutions.proofs.Putting.{expands_if_ok}
use Rattle.b_substitutions.proofs.expanding.expanded_subst.Goals as goal

pub returns : goal.returns
returns c = expands_if_ok c.args.defs.now.formulas.table.now.defs c.as_slice.result.now c.args.subst.now c.requires.fits c.as_slice.ensures c.put_in.result c.put_in.ensures
