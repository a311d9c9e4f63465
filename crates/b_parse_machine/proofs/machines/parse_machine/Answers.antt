use Rattle.std.proofs.Common.{inl, inr}
use Rattle.b_parse_machine.proofs.machines.parse_machine.Goals as goal

pub returns-in-Ok : goal.returns-in-Ok
returns-in-Ok c = inr (c.in-Ok.tree, c.in-Ok.ensures, c.machine_of.ensures)

pub returns-in-Err : goal.returns-in-Err
returns-in-Err c = inl c.in-Err.ensures
