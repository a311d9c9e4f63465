use Rattle.std.proofs.Common.{◌≡◌, drop}
use Rattle.b_sets.specs.Rows as spec
use Rattle.b_sets.proofs.families.in_each.Given as goal

abbrev pub invariant-loop-set : goal.invariant-loop-set
invariant-loop-set l = spec.in_each l.sets l.x ≡ spec.in_each (drop l.set-index l.sets) l.x
