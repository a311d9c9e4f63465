use Rattle.std.proofs.Common.{arith}
use Rattle.animator.proofs.Places.{extends_same, extends_on}
use Rattle.animator.specs.Replies.{lists_parts}
use Rattle.host_top.proofs.Writing.{front_start, list_written, lists_written}
use Rattle.host_top.proofs.answers.write_lists.Goals as goal

pub loop-list-init : goal.loop-list-init
loop-list-init c = record {
  extends = extends_same c.args.names.now;
  written = front_start c.args.names.now c.args.out.now (lists_parts 1 c.args.lists.now);
}

pub loop-list-preserved : goal.loop-list-preserved
loop-list-preserved c = record {
  extends = extends_on c.args.names.now c.loop-list.names c.write_list.new.names c.loop-list.invariant.extends c.in_ok-k.ensures.extends;
  written = list_written c.args.names.now c.loop-list.names c.write_list.new.names c.args.out.now c.loop-list.out c.write_list.new.out c.loop-list.k c.in_ok-k.k (lists_parts 1 c.args.lists.now)
      c.args.lists.now c.loop-list.list-index c.list-item.result (omega arith) c.list-item.is c.loop-list.invariant.written c.in_ok-k.ensures.written c.in_ok-k.ensures.next;
}

pub returns-clause-written : goal.returns-clause-written
returns-clause-written c =
    lists_written c.args.names.now c.loop-list.names c.args.out.now c.loop-list.out c.loop-list.k (lists_parts 1 c.args.lists.now) c.args.lists.now c.loop-list.list-index (omega arith) c.loop-list.invariant.written
