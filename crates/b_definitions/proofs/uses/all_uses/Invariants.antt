use Rattle.std.proofs.Common.{◌≡◌, map, take}
use Rattle.b_definitions.specs.Uses.{used_by}
use Rattle.b_definitions.proofs.uses.all_uses.Given as goal

-- those so far
abbrev pub invariant-loop-def : goal.invariant-loop-def
invariant-loop-def l = l.rows ≡ map (used_by l.table) (take l.def-index l.table)
