use Rattle.b_rows.proofs.Kept.{numbered_values}
use Rattle.b_rows.proofs.gathering.sequence.Goals as goal

pub gather-requires : goal.gather-requires
gather-requires c = numbered_values c.args.values.items _ (rw c.as_slice.ensures.value at c.in-Ok.ensures) c.requires
