use Rattle.b_substitutions.specs.Filling.{filled}
use Rattle.b_substitutions.proofs.Filling.{at_top, subst_along}
use Rattle.b_substitutions.proofs.expanding.put_in.Goals as goal

-- the text of the substitution stands outside
pub returns : goal.returns
returns c = subst_along c.fill_subst.result _ (filled c.args.table.now.defs.now c.args.subst.now) (at_top c.args.table.now.defs.now c.args.subst.now) c.fill_subst.ensures
