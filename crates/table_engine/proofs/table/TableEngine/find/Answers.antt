use Rattle.table_engine.specs.TableLaws.{found_made}
use Rattle.table_engine.proofs.table.TableEngine.find.Goals as goal

pub returns-clause-answer : goal.returns-clause-answer
returns-clause-answer c =
    let s = c.args.self.now in
    found_made s.face s.rows s.formulas c.args.at.now c.args.op c.args.preds.now c.in_ok-answer.answer c.number-n.result c.number-n.ensures (rw c.as_slice.ensures at c.in_ok-answer.ensures)
