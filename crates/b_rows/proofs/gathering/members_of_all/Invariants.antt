use Rattle.std.proofs.Common.{◌≡◌, ◌++◌, drop}
use Rattle.std.specs.List.{flat_map}
use Rattle.b_values.specs.Values.{elements}
use Rattle.b_rows.proofs.gathering.members_of_all.Given as goal

abbrev pub invariant-loop-set : goal.invariant-loop-set
invariant-loop-set l = l.found.items ++ flat_map elements (drop l.set-index l.sets) ≡ flat_map elements l.sets
