use Rattle.std.proofs.Common.{◌≡◌, drop}
use Rattle.pack_state.specs.Unpacking.{ascends_behind}
use Rattle.pack_state.proofs.unpacking.ascends_behind.Given as goal

abbrev pub invariant-loop-v : goal.invariant-loop-v
invariant-loop-v l = ascends_behind l.before (drop l.v-index l.rest) ≡ ascends_behind l.first l.rest
