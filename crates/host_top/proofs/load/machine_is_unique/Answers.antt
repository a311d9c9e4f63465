use Rattle.host_top.proofs.MachineTextLaws.{one_machine}
use Rattle.host_top.proofs.load.machine_is_unique.Goals as goal

pub returns : goal.returns
returns c = one_machine
