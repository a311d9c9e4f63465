use Rattle.std.proofs.Common.{Bool}
use Rattle.b_values.specs.declared.types.NameFace.{NameFace}
use Rattle.type_demands.proofs.Frames.{IsOpening}
use Rattle.type_formulas.proofs.known.frame_of.Given as goal

abbrev pub invariant-loop-i : goal.invariant-loop-i
invariant-loop-i l = (differ : Bool) × IsOpening (λ (k : NameFace). k.name) l.known 0 l.i l.meanings differ

abbrev pub decreases-loop-i : goal.decreases-loop-i
decreases-loop-i l = l.i
