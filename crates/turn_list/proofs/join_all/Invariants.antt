use Rattle.std.proofs.Common.{◌≡◌, ◌≤◌, length, take}
use Rattle.turn_list.specs.Lists.{ArePassesOf, all_known, joined_all}
use Rattle.turn_list.proofs.Meetings.{HaveMet}
use Rattle.turn_list.proofs.join_all.Given as goal

abbrev pub invariant-loop-other : goal.invariant-loop-other
invariant-loop-other g l = record {
  into : ArePassesOf l.turns l.into;
  within : length l.others.items ≤ length l.turns;
  others : ArePassesOf (take (length l.others.items) l.turns) l.others.items;
  joined : joined_all (all_known l.into) (all_known l.others.items) ≡ joined_all (all_known l.initial.into) (all_known l.initial.others.items);
  met : HaveMet (all_known l.initial.into) (all_known l.initial.others.items) (all_known l.into) (all_known l.others.items);
}

abbrev pub decreases-loop-other : goal.decreases-loop-other
decreases-loop-other g l = length l.others.items
