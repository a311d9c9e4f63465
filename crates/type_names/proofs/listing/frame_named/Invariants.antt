use Rattle.type_names.proofs.Framing.{IsFraming}
use Rattle.type_names.proofs.listing.frame_named.Given as goal

abbrev pub invariant-loop-i : goal.invariant-loop-i
invariant-loop-i l = IsFraming l.names l.i l.meanings

abbrev pub decreases-loop-i : goal.decreases-loop-i
decreases-loop-i l = l.i
