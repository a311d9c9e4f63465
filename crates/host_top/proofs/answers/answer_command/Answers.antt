use Rattle.std.proofs.Common.{refl}
use Rattle.host_top.proofs.Sessions.{numbered_grown}
use Rattle.host_top.proofs.answers.answer_command.Goals as goal

pub returns-in-Ops-clause-numbered : goal.returns-in-Ops-clause-numbered
returns-in-Ops-clause-numbered c = numbered_grown c.args.names.now c.answer_ops.new.names c.args.running.now c.args.running.now c.answer_ops.ensures.extends c.requires.numbered refl refl
