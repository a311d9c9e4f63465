use Rattle.turn_lock.specs.Turns.{IsPassOf}
use Rattle.turn_rows.proofs.Rows.{written_back}
use Rattle.turn_rows.proofs.spaces.split_row.Goals as goal

pub returns-clause-turns : goal.returns-clause-turns
returns-clause-turns g c = written_back IsPassOf c.args.turns.now c.args.passes.now.items c.split_all.new.passes c.args.passes.now.len c.requires.turns c.args.passes.now.ok.0 c.split_all.ensures.turns
