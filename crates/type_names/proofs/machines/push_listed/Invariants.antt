use Rattle.std.proofs.Common.{◌≡◌, ◌++◌, drop}
use Rattle.type_names.specs.Machines.{listed_elements}
use Rattle.type_names.proofs.machines.push_listed.Given as goal

-- what is listed, and then the rest
abbrev pub invariant-loop-set : goal.invariant-loop-set
invariant-loop-set l = l.out.items ++ listed_elements l.next (drop l.set-index l.sets) ≡ l.fn.out.items ++ listed_elements l.fn.first l.sets
