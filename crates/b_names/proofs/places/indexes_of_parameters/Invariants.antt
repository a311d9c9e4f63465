use Rattle.std.proofs.Common.{◌≡◌, length}
use Rattle.b_names.specs.Index.{AreOfParameters}
use Rattle.b_names.proofs.places.indexes_of_parameters.Given as goal

-- the definitions so far have their indexes
abbrev pub invariant-loop-def : goal.invariant-loop-def
invariant-loop-def l = record { indexes : AreOfParameters l.defs l.indexes; many : length l.indexes ≡ l.def-index }
