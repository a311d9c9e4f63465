use Rattle.std.proofs.Common.{rules}
use Rattle.std.specs.Prelude.{codes}
use Rattle.animator.specs.Replies.{current, lists_parts}
use Rattle.host_top.specs.Machines.{lists_of}
use Rattle.host_top.specs.Sessions.{session_of}
use Rattle.host_top.proofs.Writing.{then_done}
use Rattle.host_top.proofs.answers.answer_ops.Goals as goal

pub returns-clause-written : goal.returns-clause-written
returns-clause-written c =
    then_done c.args.names.now c.write_lists.new.names c.args.out.now c.write_lists.new.out c.add.new.self (lists_parts 1 (lists_of c.args.machine.now (current (session_of c.args.running.now)))) c.add.result
    (search rules) c.add.ensures
