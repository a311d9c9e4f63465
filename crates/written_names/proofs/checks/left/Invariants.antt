use Rattle.std.proofs.Common.{◌≡◌, drop}
use Rattle.written_names.specs.Names.{has}
use Rattle.written_names.specs.Times as times
use Rattle.written_names.proofs.checks.left.Given as goal

-- what the rest tells, the whole tells
abbrev pub invariant-loop-name : goal.invariant-loop-name
invariant-loop-name l = times.left (drop l.name-index l.names) (has l.surely) ≡ times.left l.names (has l.surely)
