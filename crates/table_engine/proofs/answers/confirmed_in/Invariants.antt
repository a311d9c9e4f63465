use Rattle.std.proofs.Common.{◌≡◌, drop}
use Rattle.table_engine.specs.Tables.{confirmed_in}
use Rattle.table_engine.proofs.answers.confirmed_in.Given as goal

abbrev pub invariant-loop-confirming : goal.invariant-loop-confirming
invariant-loop-confirming l = confirmed_in l.name (drop l.confirming-index l.confirms) ≡ confirmed_in l.name l.confirms
