use Rattle.std.proofs.Common.{◌≡◌}
use Rattle.b_funsets.specs.Arrangements.{places}
use Rattle.b_funsets.proofs.arrangements.places_to.Given as goal

abbrev pub invariant-loop-k : goal.invariant-loop-k
invariant-loop-k l = l.ps ≡ places l.k
