use Rattle.std.proofs.Common.{arith, ◌≡◌, length}
use Rattle.turn_list.proofs.AtPlaces.{same_length, pass_at, pass_set, keeps_at, ran_at}
use Rattle.turn_list.proofs.hold_at.Goals as goal

pub bounds-passes-place : goal.bounds-passes-place
bounds-passes-place g c = omega (arith, same_length {g = g.V.Kept} c.args.turns.now c.args.passes.now c.requires.turns, c.requires.place)

pub hold-requires-clause-turn : goal.hold-requires-clause-turn
hold-requires-clause-turn g c = pass_at {g = g.V.Kept} c.args.turns.now c.args.passes.now c.args.place c.index-turns-place.result c.index-passes-place.result c.requires.turns c.requires.place c.index-turns-place.is

pub hold-requires-clause-job : goal.hold-requires-clause-job
hold-requires-clause-job g c = keeps_at {g = g.V.Kept} g.F.FnOnce c.args.turns.now c.args.passes.now c.args.place c.index-turns-place.result c.index-passes-place.result c.args.job c.requires.turns c.requires.place c.index-turns-place.is c.requires.job

pub returns-clause-turns : goal.returns-clause-turns
returns-clause-turns g c = pass_set {g = g.V.Kept} c.args.turns.now c.args.passes.now c.args.place c.index-turns-place.result c.hold.new.pass c.requires.turns c.requires.place c.index-turns-place.is c.hold.ensures.turn

pub returns-clause-ran : goal.returns-clause-ran
returns-clause-ran g c = ran_at {g = g.V.Kept} g.F.FnOnce c.args.turns.now c.args.passes.now c.args.place c.index-turns-place.result c.index-passes-place.result c.hold.new.pass c.args.job c.hold.result
    c.requires.turns c.requires.place c.index-turns-place.is c.hold.ensures.ran c.hold.ensures.one_history
