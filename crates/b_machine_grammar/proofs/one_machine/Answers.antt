-- Each way to cut leaves at most one reading.
use Rattle.b_machine_grammar.proofs.Unique.{machine_unique}
use Rattle.b_machine_grammar.proofs.one_machine.Goals as goal

pub returns : goal.returns
returns c = machine_unique
