use Rattle.std.proofs.Common.{◌≡◌, ◌++◌, drop}
use Rattle.set_elements.specs.Sizes.{size_in}
use Rattle.type_names.specs.Machines.{deferred_elements}
use Rattle.type_names.proofs.machines.push_deferred.Given as goal

-- what is listed, and then the rest
abbrev pub invariant-loop-set : goal.invariant-loop-set
invariant-loop-set l = l.out.items ++ deferred_elements l.hiding.names (size_in l.sizes.sizings l.sizes.other) l.next (drop l.set-index l.sets) ≡ l.fn.out.items ++ deferred_elements l.hiding.names (size_in l.sizes.sizings l.sizes.other) l.fn.first l.sets
