use Rattle.std.proofs.Common.{◌≡◌, ◌≤◌, length, map, drop}
use Rattle.b_values.specs.declared.values.Value.TheVariants.{Set}
use Rattle.b_funsets.specs.Families.{nonempty_sublists}
use Rattle.b_funsets.proofs.subsets.nonempty.Given as goal

abbrev pub invariant-loop-i : goal.invariant-loop-i
invariant-loop-i l = record { within : l.i ≤ length l.members; built : l.sets ≡ map Set (nonempty_sublists (drop l.i l.members)) }

abbrev pub decreases-loop-i : goal.decreases-loop-i
decreases-loop-i l = l.i
