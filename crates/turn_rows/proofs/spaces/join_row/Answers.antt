use Rattle.turn_lock.specs.Turns.{IsPassOf}
use Rattle.turn_rows.proofs.Rows.{written_back}
use Rattle.turn_rows.proofs.spaces.join_row.Goals as goal

pub returns : goal.returns
returns g c = written_back IsPassOf c.args.turns.now c.args.passes.items c.join_all.new.into c.args.passes.len c.requires.turns c.args.passes.ok.0 c.join_all.ensures.turns
