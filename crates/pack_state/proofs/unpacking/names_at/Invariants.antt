use Rattle.std.proofs.Common.{◌≡◌, drop}
use Rattle.pack_state.specs.Unpacking.{read_names}
use Rattle.pack_state.proofs.Loops.{with_front}
use Rattle.pack_state.proofs.unpacking.names_at.Given as goal

abbrev pub invariant-loop-name : goal.invariant-loop-name
invariant-loop-name l = with_front l.values (read_names l.sets (drop l.name-index l.names) l.rest) ≡ read_names l.sets l.names l.bytes
