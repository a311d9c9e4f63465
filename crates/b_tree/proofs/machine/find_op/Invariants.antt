use Rattle.std.proofs.Common.{◌≡◌, drop}
use Rattle.b_tree.specs.Operations.{op_of}
use Rattle.b_tree.proofs.machine.find_op.Given as goal

abbrev pub invariant-loop-op : goal.invariant-loop-op
invariant-loop-op l = op_of l.fn.ops l.id ≡ op_of (drop l.op-index l.ops) l.id
