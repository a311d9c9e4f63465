use Rattle.b_machine_text.proofs.Sizes.{clauses_same, size_along}
use Rattle.b_machine_text.proofs.measuring.measured_clauses.Goals as goal

pub returns : goal.returns
returns c = size_along c.with_clauses.result _ _ (clauses_same c.args.defs.now.formulas.table.now.defs c.args.clauses.now) c.with_clauses.ensures
