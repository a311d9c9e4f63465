use Rattle.std.proofs.Common.{◌≡◌, ◌++◌, map, drop}
use Rattle.table_engine.specs.Tables.{packed_step, op_of}
use Rattle.table_engine.proofs.answers.packed_list.Given as goal

abbrev pub invariant-loop-to : goal.invariant-loop-to
invariant-loop-to l = l.steps ++ map (packed_step l.op) (drop l.to-index l.list.to) ≡ map (packed_step l.op) l.list.to
