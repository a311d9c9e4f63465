use Rattle.std.proofs.Common.{sym, subst}
use Rattle.std.specs.List.{AllByRecursion}
use Rattle.engine_face.specs.Words.{WordsFit}
use Rattle.pack_state.specs.Packable.{IsShort}
use Rattle.pack_state.specs.PackableLaws.{constants_short, running_short, constants_state, running_state}
use Rattle.pack_state.proofs.packing.put_state.Goals as goal

pub put_values-requires : goal.put_values-requires
put_values-requires c = subst (AllByRecursion IsShort) (sym c.as_slice.ensures) (constants_short c.args.face.now c.args.s.now c.in-Constants.cs c.in-Constants.is c.requires.fits c.requires.kept)

pub put_values-requires-in-Running : goal.put_values-requires-in-Running
put_values-requires-in-Running c =
    subst (AllByRecursion IsShort) (sym c.as_slice-in-Running.ensures) (running_short c.args.face.now c.args.s.now c.in-Running.cs c.in-Running.vs c.in-Running.is c.requires.fits c.requires.kept).0

pub put_values-requires-in-Running-2 : goal.put_values-requires-in-Running-2
put_values-requires-in-Running-2 c =
    subst (AllByRecursion IsShort) (sym c.as_slice-in-Running-2.ensures) (running_short c.args.face.now c.args.s.now c.in-Running.cs c.in-Running.vs c.in-Running.is c.requires.fits c.requires.kept).1

pub returns-in_ok-put_values-in-Constants-clause-state : goal.returns-in_ok-put_values-in-Constants-clause-state
returns-in_ok-put_values-in-Constants-clause-state c =
    constants_state c.args.face.now c.args.s.now c.in-Constants.cs c.in-Constants.is c.requires.fits c.requires.kept
    (subst (AllByRecursion WordsFit) c.as_slice.ensures c.in_ok-put_values-in-Constants.ensures.words)

pub returns-in_ok-put_values-in-Running-2-clause-state : goal.returns-in_ok-put_values-in-Running-2-clause-state
returns-in_ok-put_values-in-Running-2-clause-state c =
    running_state c.args.face.now c.args.s.now c.in-Running.cs c.in-Running.vs c.in-Running.is c.requires.fits c.requires.kept
    (subst (AllByRecursion WordsFit) c.as_slice-in-Running.ensures c.in_ok-put_values-in-Running.ensures.words)
    (subst (AllByRecursion WordsFit) c.as_slice-in-Running-2.ensures c.in_ok-put_values-in-Running-2.ensures.words)
