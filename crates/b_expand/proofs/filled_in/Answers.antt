use Rattle.b_expand.specs.Filling.{filled}
use Rattle.b_expand.proofs.Texts.{at_top, ok_along}
use Rattle.b_expand.proofs.filled_in.Goals as goal

-- the text of the formula stands outside
pub returns : goal.returns
returns c = ok_along c.fill.result _ (filled c.args.table.now.defs.now c.args.formula.now) (at_top c.args.table.now.defs.now c.args.formula.now) c.fill.ensures
