use Rattle.std.proofs.Common.{rules, ◌≡◌, ◌∙◌}
use Rattle.animator.specs.Names.{text_of}
use Rattle.animator.specs.Words.{command_of}
use Rattle.animator.specs.Replies.{answer}
use Rattle.host_top.specs.Machines.{meaning_of}
use Rattle.host_top.specs.Sessions.{session_of}
use Rattle.host_top.proofs.solo.answer_line.Goals as goal

pub returns-in-Ok-clause-front : goal.returns-in-Ok-clause-front
returns-in-Ok-clause-front g c =
    let same : c.as_slice.result.now ≡ text_of c.answer_command.new.names (answer (meaning_of c.args.machine.now) (session_of c.args.running.now) (command_of c.args.line.now)).reply = search rules in
    rw same at c.give_all.ensures.front
