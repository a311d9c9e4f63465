use Rattle.std.proofs.Common.{◌≡◌, take}
use Rattle.type_names.specs.Faces.{operation_names}
use Rattle.type_names.proofs.faces.operation_names.Given as goal

-- what is listed, and then the rest
abbrev pub invariant-loop-op : goal.invariant-loop-op
invariant-loop-op l = l.names ≡ operation_names (take l.op-index l.ops)
