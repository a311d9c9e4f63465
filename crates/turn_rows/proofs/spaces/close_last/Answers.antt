use Rattle.turn_lock.specs.Turns.{IsPassOf}
use Rattle.turn_rows.proofs.Rows.{popped}
use Rattle.turn_rows.proofs.spaces.close_last.Goals as goal

pub close-requires : goal.close-requires
close-requires g c = (popped IsPassOf c.args.turns.now.items c.pop.new.self.items c.args.passes.now.items c.pop-2.new.self.items c.in_ok-turn.turn c.in_ok-pass.pass c.in_ok-turn.ensures.items c.in_ok-pass.ensures.items c.requires).1

pub returns : goal.returns
returns g c = (popped IsPassOf c.args.turns.now.items c.pop.new.self.items c.args.passes.now.items c.pop-2.new.self.items c.in_ok-turn.turn c.in_ok-pass.pass c.in_ok-turn.ensures.items c.in_ok-pass.ensures.items c.requires).0
