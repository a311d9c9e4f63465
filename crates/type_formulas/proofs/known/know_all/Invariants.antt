use Rattle.type_formulas.specs.Typings.{all_known}
use Rattle.type_formulas.proofs.Rows.{IsKnowing}
use Rattle.type_formulas.proofs.known.know_all.Given as goal

abbrev pub invariant-loop-i : goal.invariant-loop-i
invariant-loop-i l = IsKnowing l.fn.rows.items l.rows.items (all_known l.known) l.i
