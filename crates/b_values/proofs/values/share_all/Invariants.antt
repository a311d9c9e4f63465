use Rattle.std.proofs.Common.{◌≡◌, take}
use Rattle.b_values.proofs.values.share_all.Given as goal

abbrev pub invariant-loop-v : goal.invariant-loop-v
invariant-loop-v l = l.shared ≡ take l.v-index l.values
