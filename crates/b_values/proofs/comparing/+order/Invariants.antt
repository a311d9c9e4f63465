use Rattle.std.proofs.Common.{◌≡◌, ◌+◌, length}
use Rattle.std.specs.Cmp.Lexicographic.{slice_cmp}
use Rattle.b_values.specs.Values.{value_cmp}
use Rattle.b_values.proofs.comparing.+order.Given as goal

abbrev pub invariant-order_items-loop-x : goal.invariant-order_items-loop-x
invariant-order_items-loop-x l = record {
  alike : slice_cmp value_cmp l.fn.xs l.fn.ys ≡ slice_cmp value_cmp l.x-iterator.a.rest.now l.x-iterator.b.rest.now;
  level : length l.fn.xs + length l.x-iterator.b.rest.now ≡ length l.fn.ys + length l.x-iterator.a.rest.now;
}
