use Rattle.table_engine.specs.TableLaws.{value_made}
use Rattle.table_engine.proofs.table.TableEngine.value.Goals as goal

pub returns-clause-answer : goal.returns-clause-answer
returns-clause-answer c =
    let s = c.args.self.now in
    value_made s.face s.rows s.formulas c.args.at.now c.args.key.now c.value_of.result c.number-n.result c.number-n.ensures
    (rw c.as_slice.ensures at c.value_of.ensures.answer) (rw c.as_slice.ensures at c.value_of.ensures.small)
