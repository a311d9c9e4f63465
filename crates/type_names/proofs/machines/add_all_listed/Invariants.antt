use Rattle.std.proofs.Common.{◌≡◌, ◌++◌, drop}
use Rattle.type_names.specs.Machines.{all_listed}
use Rattle.type_names.proofs.machines.add_all_listed.Given as goal

-- what is listed, and then the rest
abbrev pub invariant-loop-set : goal.invariant-loop-set
invariant-loop-set l = l.out ++ all_listed (drop l.set-index l.sets) ≡ l.fn.out ++ all_listed l.sets
