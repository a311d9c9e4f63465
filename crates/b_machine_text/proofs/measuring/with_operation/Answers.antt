use Rattle.b_machine_text.proofs.Sizes.{operation_same, size_along}
use Rattle.b_machine_text.proofs.measuring.with_operation.Goals as goal

pub returns : goal.returns
returns c = size_along c.with_body.result _ _ (operation_same c.args.defs.now.formulas.table.now.defs c.args.operation.now c.args.size) c.with_body.ensures
