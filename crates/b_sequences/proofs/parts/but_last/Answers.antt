use Rattle.std.proofs.Common.{◌<◌, length, rules, tests}
use Rattle.b_sequences.proofs.Steps.{but_last_couples}
use Rattle.b_sequences.proofs.parts.but_last.Goals as goal

pub returns-in_ok-front_of : goal.returns-in_ok-front_of
returns-in_ok-front_of c = but_last_couples _ _ c.requires (let h : 0 < length c.args.couples.now = search (rules, tests) in h) c.in_ok-front_of.ensures
