use Rattle.b_types.specs.Formulas.{formula_known, formula_told}
use Rattle.b_types.proofs.formulas.type_formula.Goals as goal

pub returns : goal.returns
returns c = c.checked.ensures (formula_known c.args.face.now c.args.scope) (formula_told c.args.face.now c.args.scope c.args.text.now) c.formula_answer.ensures
