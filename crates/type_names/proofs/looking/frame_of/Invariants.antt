use Rattle.std.proofs.Common.{ℕ, List}
use Rattle.type_demands.proofs.Frames.{IsOpening}
use Rattle.type_names.proofs.looking.frame_of.Given as goal

abbrev pub invariant-loop-i : goal.invariant-loop-i
invariant-loop-i l = IsOpening (λ (x : List ℕ). x) l.names 0 l.i l.meanings l.differ

abbrev pub decreases-loop-i : goal.decreases-loop-i
decreases-loop-i l = l.i
