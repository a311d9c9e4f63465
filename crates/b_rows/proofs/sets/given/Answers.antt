use Rattle.b_rows.proofs.Kept.{elements_are_kept}
use Rattle.b_rows.proofs.sets.given.Goals as goal

pub gather-requires : goal.gather-requires
gather-requires c = elements_are_kept c.args.set c.args.size _ c.in-Ok.ensures
