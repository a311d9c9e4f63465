use Rattle.b_types.specs.Machines.{machine_known, machine_told}
use Rattle.b_types.proofs.machines.type_machine.Goals as goal

pub returns : goal.returns
returns c = c.checked.ensures (machine_known c.args.m.now) (machine_told c.args.m.now c.args.prefs.now.default_setsize) c.machine_answer.ensures
