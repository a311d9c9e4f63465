use Rattle.std.proofs.Common.{rules}
use Rattle.animator.specs.Replies.{numbered, end_text}
use Rattle.host_top.proofs.Writing.{end_written}
use Rattle.host_top.proofs.answers.write_list.Goals as goal

pub returns-clause-written : goal.returns-clause-written
returns-clause-written c =
    end_written c.args.names.now c.write_steps.new.names c.args.out.now c.write_steps.new.out c.add-2.new.self (numbered c.args.first c.args.list.now.steps) c.args.list.now.op (end_text c.args.list.now.end)
    (search rules) (search rules)
