use Rattle.std.proofs.Common.{drop}
use Rattle.animator.specs.Names.{Extends}
use Rattle.animator.specs.Replies.{lists_parts}
use Rattle.host_top.proofs.Writing.{WritesFront}
use Rattle.host_top.proofs.answers.write_lists.Given as goal

-- the lines of the lists so far are written
abbrev pub invariant-loop-list : goal.invariant-loop-list
invariant-loop-list l = record {
  extends : Extends l.fn.names l.names;
  written : WritesFront l.fn.names l.names l.fn.out l.out (lists_parts 1 l.lists) (lists_parts l.k (drop l.list-index l.lists));
}
