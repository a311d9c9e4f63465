use Rattle.std.proofs.Common.{◌≡◌, ◌++◌}
use Rattle.b_types.specs.Known.{first_elements}
use Rattle.b_types.proofs.knowing.push_elements.Given as goal

abbrev pub invariant-loop-i : goal.invariant-loop-i
invariant-loop-i l = l.out.items ≡ l.fn.out.items ++ first_elements l.i
