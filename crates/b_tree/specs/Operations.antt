-- The operations of a machine by their numbers.
use Rattle.std.specs.Prelude.{Bool, ◌==◌, true, false, List, [], ◌∷◌, Option, Some, None, if◌then◌else◌}
use Rattle.b_values.specs.declared.types.OpId.{OpId}
use Rattle.b_values.specs.declared.types.OpId.TheVariants.{Setup, Init, Op}
use Rattle.b_tree.specs.declared.machine.OpTree.{OpTree}

-- the two numbers are one
abbrev pub same_op : OpId → OpId → Bool
same_op Setup Setup = true
same_op Init Init = true
same_op (Op m) (Op n) = m == n
same_op a b = false

-- the first operation with the number
abbrev pub op_of : List OpTree → OpId → Option OpTree
op_of [] id = None
op_of (o ∷ ops) id = if same_op o.id id then Some o else op_of ops id
