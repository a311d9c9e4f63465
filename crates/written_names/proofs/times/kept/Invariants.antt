use Rattle.std.proofs.Common.{◌≡◌, ◌++◌, drop}
use Rattle.std.specs.Prelude.{filter}
use Rattle.written_names.specs.Names.{has}
use Rattle.written_names.proofs.times.kept.Given as goal

-- the names that were kept, and those of the rest
abbrev pub invariant-loop-name : goal.invariant-loop-name
invariant-loop-name l = l.list ++ filter (has l.others) (drop l.name-index l.names) ≡ filter (has l.others) l.names
