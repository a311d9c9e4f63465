use Rattle.std.proofs.Common.{◌≡◌, length}
use Rattle.b_substitutions.specs.Standing.{AreTold}
use Rattle.b_substitutions.proofs.tables.told_all.Given as goal

-- the definitions so far are told
abbrev pub invariant-loop-def : goal.invariant-loop-def
invariant-loop-def l = record { told : AreTold l.table l.uses; many : length l.uses ≡ l.def-index }
