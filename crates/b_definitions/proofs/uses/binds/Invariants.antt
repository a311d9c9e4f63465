use Rattle.std.proofs.Common.{◌≡◌, drop}
use Rattle.b_definitions.specs.Uses as spec
use Rattle.b_definitions.proofs.uses.binds.Given as goal

-- what is left decides
abbrev pub invariant-loop-name : goal.invariant-loop-name
invariant-loop-name l = spec.binds l.body.table.now (drop l.name-index l.names) ≡ spec.binds l.body.table.now l.names
