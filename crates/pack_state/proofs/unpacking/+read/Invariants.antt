use Rattle.std.proofs.Common.{◌≡◌, ◌-◌}
use Rattle.pack_state.specs.Unpacking.{read_many, reader}
use Rattle.pack_state.proofs.Loops.{with_front}
use Rattle.pack_state.proofs.unpacking.+read.Given as goal

abbrev pub invariant-values_at-loop : goal.invariant-values_at-loop
invariant-values_at-loop l = with_front l.values (read_many (reader l.sets l.ty) (l.count - l.counter) l.rest) ≡ read_many (reader l.sets l.ty) l.count l.bytes
