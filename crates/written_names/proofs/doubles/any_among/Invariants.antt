use Rattle.std.proofs.Common.{◌≡◌, drop}
use Rattle.std.specs.List.{list_any}
use Rattle.written_names.specs.Names.{has}
use Rattle.written_names.proofs.doubles.any_among.Given as goal

-- what the rest tells, the whole tells
abbrev pub invariant-loop-x : goal.invariant-loop-x
invariant-loop-x l = list_any (has l.names) (drop l.x-index l.xs) ≡ list_any (has l.names) l.xs
