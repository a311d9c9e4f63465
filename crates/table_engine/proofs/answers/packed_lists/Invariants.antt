use Rattle.std.proofs.Common.{◌≡◌, ◌++◌, map, drop}
use Rattle.table_engine.specs.Tables.{packed_list}
use Rattle.table_engine.proofs.answers.packed_lists.Given as goal

abbrev pub invariant-loop-list : goal.invariant-loop-list
invariant-loop-list l = l.packed ++ map packed_list (drop l.list-index l.lists) ≡ map packed_list l.lists
