use Rattle.table_engine.specs.TableLaws.{confirmed_made}
use Rattle.table_engine.proofs.table.TableEngine.confirm.Goals as goal

pub returns-clause-answer : goal.returns-clause-answer
returns-clause-answer c =
    let s = c.args.self.now in
    confirmed_made s.face s.rows s.formulas c.args.at.now c.args.saved.now c.in_ok-answer.answer c.number-n.result c.number-n.ensures
    (rw (c.as_slice.ensures, c.as_slice-2.ensures) at c.in_ok-answer.ensures)
