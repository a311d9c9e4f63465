use Rattle.std.proofs.Common.{◌≡◌, ◌++◌, drop}
use Rattle.type_names.specs.Faces.{deferred_elements}
use Rattle.type_names.proofs.faces.push_deferred.Given as goal

-- what is listed, and then the rest
abbrev pub invariant-loop-set : goal.invariant-loop-set
invariant-loop-set l = l.out.items ++ deferred_elements l.hiding.names l.next (drop l.set-index l.sets) ≡ l.fn.out.items ++ deferred_elements l.hiding.names l.fn.first l.sets
