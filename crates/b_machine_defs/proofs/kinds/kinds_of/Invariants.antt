use Rattle.std.proofs.Common.{◌≡◌, drop}
use Rattle.b_machine_defs.specs.Declaring.{kinds, kinds_after}
use Rattle.b_machine_defs.proofs.kinds.kinds_of.Given as goal

-- those so far, and then the rest
abbrev pub invariant-loop-def : goal.invariant-loop-def
invariant-loop-def l = kinds_after l.table l.kinds (drop l.def-index l.table) ≡ kinds l.table
