use Rattle.std.proofs.Common.{◌≡◌, ◌++◌, drop}
use Rattle.type_names.specs.Machines.{set_names}
use Rattle.type_names.proofs.machines.add_sets.Given as goal

-- what is listed, and then the rest
abbrev pub invariant-loop-set : goal.invariant-loop-set
invariant-loop-set l = l.out ++ set_names (drop l.set-index l.sets) ≡ l.fn.out ++ set_names l.sets
