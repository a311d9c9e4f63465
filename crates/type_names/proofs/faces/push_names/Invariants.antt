use Rattle.std.proofs.Common.{◌≡◌, ◌++◌, drop}
use Rattle.type_names.specs.Names.{in_order}
use Rattle.type_names.specs.Faces.{face_names}
use Rattle.type_names.proofs.faces.push_names.Given as goal

-- what is listed, and then the rest
abbrev pub invariant-loop-name : goal.invariant-loop-name
invariant-loop-name l = l.out.items ++ in_order l.part (face_names (drop l.name-index l.names)) ≡ l.fn.out.items ++ in_order l.fn.first (face_names l.names)
