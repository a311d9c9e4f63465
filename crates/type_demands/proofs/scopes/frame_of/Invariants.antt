use Rattle.b_ast.specs.declared.Bound.{Bound}
use Rattle.type_demands.proofs.Frames.{IsOpening}
use Rattle.type_demands.proofs.scopes.frame_of.Given as goal

abbrev pub invariant-loop-i : goal.invariant-loop-i
invariant-loop-i l = IsOpening (λ (b : Bound). b.name) l.names l.fn.start l.i l.meanings l.differ

abbrev pub decreases-loop-i : goal.decreases-loop-i
decreases-loop-i l = l.i
