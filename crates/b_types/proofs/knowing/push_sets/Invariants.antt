use Rattle.std.proofs.Common.{◌≡◌, ◌++◌}
use Rattle.b_types.specs.Known.{first_sets}
use Rattle.b_types.proofs.knowing.push_sets.Given as goal

abbrev pub invariant-loop-i : goal.invariant-loop-i
invariant-loop-i l = l.out.items ≡ l.fn.out.items ++ first_sets l.i
