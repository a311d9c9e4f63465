use Rattle.std.proofs.Common.{◌≡◌, drop}
use Rattle.type_names.specs.Faces.{are_counted}
use Rattle.type_names.proofs.faces.are_counted.Given as goal

-- what is listed, and then the rest
abbrev pub invariant-loop-element : goal.invariant-loop-element
invariant-loop-element l = are_counted l.set 1 l.elements ≡ are_counted l.set l.k (drop l.element-index l.elements)
