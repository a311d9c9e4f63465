use Rattle.std.proofs.Common.{◌∙◌, sym, arith}
use Rattle.host_top.proofs.Listing.{in_this, in_rest}
use Rattle.host_top.proofs.answers.step_numbered.Goals as goal

pub returns-then-left-count : goal.returns-then-left-count
returns-then-left-count c =
    c.get.ensures.value ∙ sym (in_this c.args.lists.now c.loop-list.list-index c.loop-list.left c.list-item.result (omega arith) c.list-item.is (omega arith)) ∙ c.loop-list.invariant

pub loop-list-preserved : goal.loop-list-preserved
loop-list-preserved c =
    rw c.len-count.ensures (sym (in_rest c.args.lists.now c.loop-list.list-index c.loop-list.left c.list-item.result (omega arith) c.list-item.is (omega arith)) ∙ c.loop-list.invariant)
