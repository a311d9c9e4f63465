use Rattle.std.proofs.Common.{sym}
use Rattle.table_engine.specs.TableLaws.{read_made}
use Rattle.table_engine.proofs.table.TableEngine.read_formula.Goals as goal

pub returns-in-Ok : goal.returns-in-Ok
returns-in-Ok c =
    let s = c.args.self.now in
    read_made s.face s.rows s.formulas c.args.scope c.args.text.now c.in-Some.row.now c.in-Ok.key (sym (rw c.as_slice.ensures at c.in-Some.ensures)) c.in-Ok.ensures
