use Rattle.b_stretches.specs.Stretches.{zipped}
use Rattle.b_read_machine.proofs.Faults.{not_plain, plain_read}
use Rattle.b_read_machine.proofs.texts.machine_in.Goals as goal

pub returns-in-Err : goal.returns-in-Err
returns-in-Err c = not_plain (zipped c.args.words.now c.args.lexemes.now) c.args.end c.in-Err.fault c.in-Err.ensures

pub returns-in-Ok : goal.returns-in-Ok
returns-in-Ok c = plain_read (zipped c.args.words.now c.args.lexemes.now) c.args.end c.plain_machine.result c.in-Ok.ensures c.plain_machine.ensures
