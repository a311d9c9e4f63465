use Rattle.std.proofs.Common.{◌≡◌, ◌++◌, ◌≤◌, map, length, take, drop}
use Rattle.std.specs.Prelude.{vec_len, vec_capacity}
use Rattle.turn_lock.specs.Passes.{left_known, split_known}
use Rattle.turn_list.specs.Lists.{ArePassesOf, all_known}
use Rattle.turn_list.proofs.split_all.Given as goal

abbrev pub invariant-loop-i : goal.invariant-loop-i
invariant-loop-i g l = record {
  turns : ArePassesOf l.turns l.passes;
  left : all_known l.passes ≡ map left_known (take l.i (all_known l.initial.passes)) ++ drop l.i (all_known l.initial.passes);
  split_turns : ArePassesOf (take l.i l.turns) l.split.items;
  split : all_known l.split.items ≡ map split_known (take l.i (all_known l.initial.passes));
  count : vec_len l.split ≡ l.i;
  room : length l.turns ≤ vec_capacity l.split;
}
