use Rattle.type_demands.specs.Scopes.{scope_of}
use Rattle.type_substs.proofs.Olds.{IsOld}
use Rattle.type_substs.proofs.scopes.old_frame.Given as goal

abbrev pub invariant-loop-i : goal.invariant-loop-i
invariant-loop-i l = IsOld l.names (scope_of l.frames) l.i l.meanings

abbrev pub decreases-loop-i : goal.decreases-loop-i
decreases-loop-i l = l.i
