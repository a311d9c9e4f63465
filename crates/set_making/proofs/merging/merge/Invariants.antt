use Rattle.std.proofs.Common.{◌+◌, ◌-◌, ◌≤◌, length, drop}
use Rattle.ascending.specs.MergeLaws.{IsMerging}
use Rattle.b_values.specs.Values.{value_cmp}
use Rattle.set_making.proofs.merging.merge.Given as goal

abbrev pub invariant-loop-i : goal.invariant-loop-i
invariant-loop-i l = record {
  left : l.i ≤ length l.xs;
  right : l.j ≤ length l.ys;
  state : IsMerging value_cmp l.xs l.ys l.merged (drop l.i l.xs) (drop l.j l.ys);
}

abbrev pub decreases-loop-i : goal.decreases-loop-i
decreases-loop-i l = (length l.xs - l.i) + (length l.ys - l.j)
