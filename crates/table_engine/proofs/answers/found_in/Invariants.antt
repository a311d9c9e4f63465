use Rattle.std.proofs.Common.{◌≡◌, drop}
use Rattle.table_engine.specs.Tables.{found_in}
use Rattle.table_engine.proofs.answers.found_in.Given as goal

abbrev pub invariant-loop-finding : goal.invariant-loop-finding
invariant-loop-finding l = found_in l.op (drop l.finding-index l.finds) ≡ found_in l.op l.finds
