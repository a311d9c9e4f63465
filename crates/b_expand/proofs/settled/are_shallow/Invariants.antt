use Rattle.std.proofs.Common.{◌≡◌, drop}
use Rattle.b_expand.specs.Settled as spec
use Rattle.b_expand.proofs.settled.are_shallow.Given as goal

-- what is left decides
abbrev pub invariant-loop-name : goal.invariant-loop-name
invariant-loop-name l = spec.are_shallow (drop l.name-index l.names) ≡ spec.are_shallow l.names
