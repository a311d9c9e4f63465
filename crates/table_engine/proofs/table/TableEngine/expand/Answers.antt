use Rattle.table_engine.specs.TableLaws.{lists_made}
use Rattle.table_engine.proofs.table.TableEngine.expand.Goals as goal

pub returns-clause-answer : goal.returns-clause-answer
returns-clause-answer c =
    let s = c.args.self.now in
    lists_made s.face s.rows s.formulas c.args.at.now c.in_ok-list.list c.number-n.result c.number-n.ensures (rw c.as_slice.ensures at c.in_ok-list.ensures)
