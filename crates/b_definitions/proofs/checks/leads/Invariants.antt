use Rattle.std.proofs.Common.{◌≡◌, drop}
use Rattle.b_definitions.specs.Uses as spec
use Rattle.b_definitions.proofs.checks.leads.Given as goal

-- what is left decides
abbrev pub invariant-loop-next : goal.invariant-loop-next
invariant-loop-next l = spec.leads l.rows l.at (drop l.next-index l.rest) l.last ≡ spec.leads l.rows l.from l.rest l.last
