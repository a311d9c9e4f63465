use Rattle.turn_lock.specs.Turns.{IsPassOf}
use Rattle.turn_rows.proofs.Rows.{written_back}
use Rattle.turn_rows.proofs.spaces.put_by_one.Goals as goal

pub returns : goal.returns
returns g c = written_back IsPassOf c.args.turns.now c.args.passes.items c.put_everywhere.new.passes c.args.passes.len c.requires.turns c.args.passes.ok.0 c.put_everywhere.ensures
