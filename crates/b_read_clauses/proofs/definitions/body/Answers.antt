use Rattle.b_stretches.specs.Stretches.{pieces}
use Rattle.b_read_clauses.proofs.Laws.{with_formula_on, without_formula_on}
use Rattle.b_read_clauses.proofs.definitions.body.Goals as goal

pub returns-in-Ok : goal.returns-in-Ok
returns-in-Ok c = with_formula_on c.args.depth (pieces c.args.s) c.in-Ok.formula c.subst.result c.with_formula.result c.with_formula.ensures c.in-Ok.ensures c.subst.ensures

pub returns-in-Err-NoMachine : goal.returns-in-Err-NoMachine
returns-in-Err-NoMachine c =
    without_formula_on
    c.args.depth
    (pieces c.args.s)
    c.written.result
    c.in-Err-NoMachine.field-0
    c.in-Err-NoMachine.at
    c.subst-in-Err-NoMachine.result
    c.without_formula.result
    c.in-Err-NoMachine.is
    c.in-Err-NoMachine.field-0-is
    c.without_formula.ensures
    c.written.ensures
    c.subst-in-Err-NoMachine.ensures
