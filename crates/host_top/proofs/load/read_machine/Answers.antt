use Rattle.std.proofs.Common.{◌≡◌, None}
use Rattle.host_top.specs.Reading.{machine_of}
use Rattle.host_top.proofs.MachineTextLaws.{none_read}
use Rattle.host_top.proofs.load.read_machine.Goals as goal

pub returns-in-None-clause-refused : goal.returns-in-None-clause-refused
returns-in-None-clause-refused c =
    let none : machine_of c.args.text.now ≡ None = cc (c.in_ok-machine.ensures, c.in-None.is) in
    λ _. none_read c.args.text.now none
