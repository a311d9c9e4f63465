use Rattle.std.proofs.Common.{subst}
use Rattle.b_sequences.specs.Joining.{PushesList}
use Rattle.b_sequences.proofs.JoinedLists.{one_more, none_left}
use Rattle.b_sequences.proofs.joins.joined.Goals as goal

pub loop-couple-preserved : goal.loop-couple-preserved
loop-couple-preserved c =
    one_more _ _ _ _ _ c.loop-couple-test.true c.couple-item.is (subst (PushesList c.couple-item.result c.loop-couple.all c.push_list.new.all) c.if-not-branch.false c.in_ok-push_list.ensures) _ c.loop-couple.invariant

pub returns-then-not-branch : goal.returns-then-not-branch
returns-then-not-branch c =
    none_left _ _ c.push_list.new.all _ _ c.loop-couple-test.true c.couple-item.is (subst (PushesList c.couple-item.result c.loop-couple.all c.push_list.new.all) c.if-not-branch.true c.in_ok-push_list.ensures) _ c.loop-couple.invariant
