use Rattle.b_rows.proofs.Kept.{members_are_values}
use Rattle.b_rows.proofs.gathering.collect.Goals as goal

pub gather-requires : goal.gather-requires
gather-requires c = members_are_values c.args.values.items _ (rw c.as_slice.ensures.value at c.in-Ok.ensures) c.requires
