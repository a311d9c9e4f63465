use Rattle.std.proofs.Common.{◌≡◌, drop}
use Rattle.b_places.specs.Places as spec
use Rattle.b_places.proofs.tuples.couple_of.Given as goal

abbrev pub invariant-loop-v : goal.invariant-loop-v
invariant-loop-v l = spec.coupled l.whole (drop l.v-index l.others) ≡ spec.couple_of l.fn.values
