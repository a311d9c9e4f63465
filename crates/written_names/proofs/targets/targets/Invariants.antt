use Rattle.std.proofs.Common.{◌≡◌, drop}
use Rattle.written_names.specs.Names.{is_among}
use Rattle.written_names.specs.Targets as spec
use Rattle.written_names.proofs.targets.targets.Given as goal

-- what the rest tells, the whole tells
abbrev pub invariant-loop-name : goal.invariant-loop-name
invariant-loop-name l = spec.targets (drop l.name-index l.names) (is_among l.may) ≡ spec.targets l.names (is_among l.may)
