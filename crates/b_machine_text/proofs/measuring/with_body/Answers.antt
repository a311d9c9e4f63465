use Rattle.b_machine_text.proofs.Sizes.{body_added}
use Rattle.b_machine_text.proofs.measuring.with_body.Goals as goal

pub returns : goal.returns
returns c = body_added c.args.defs.now.formulas.table.now.defs c.args.subst.now c.args.size c.in_ok-part.part c.in_ok-part.ensures c.with_part.result c.with_part.ensures
