use Rattle.std.proofs.Common.{◌≡◌, drop}
use Rattle.written_names.specs.Names.{has, none}
use Rattle.written_names.specs.Doubles as spec
use Rattle.written_names.proofs.doubles.again.Given as goal

-- what the rest tells, the whole tells
abbrev pub invariant-loop-name : goal.invariant-loop-name
invariant-loop-name l = spec.again (has l.before) (drop l.name-index l.names) ≡ spec.again none l.names
