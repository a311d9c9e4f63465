use Rattle.std.proofs.Common.{◌∙◌, sym}
use Rattle.host_top.proofs.CommandLaws.{command_is}
use Rattle.host_top.proofs.words.read_command.Goals as goal

pub returns : goal.returns
returns c = c.command_at_front.ensures ∙ sym (command_is c.args.line.now)
