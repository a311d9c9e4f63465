use Rattle.std.proofs.Common.{◌≡◌, drop}
use Rattle.b_definitions.specs.Arranging.{ordered_from}
use Rattle.b_definitions.proofs.checks.is_ordered.Given as goal

-- what is left decides
abbrev pub invariant-loop-i : goal.invariant-loop-i
invariant-loop-i l = ordered_from l.i (drop l.i l.rows) ≡ ordered_from 0 l.rows
