use Rattle.std.proofs.Common.{None, ap}
use Rattle.b_expand.specs.Standing.{means_at, frames_of}
use Rattle.b_expand.proofs.Texts.{tree_from, steps_from, none_from}
use Rattle.b_expand.proofs.names.argument_from.Goals as goal

-- the argument in the nearest text round this one
pub returns-in-Some-clause-tree : goal.returns-in-Some-clause-tree
returns-in-Some-clause-tree c =
    tree_from c.args.text.now.table.defs.now c.args.text.now.here c.in-Within.caller.now.text (frames_of c.in-Within.caller.now.callers) (frames_of c.args.text.now.callers) (ap frames_of c.in-Within.is) c.args.place _
    (c.in-Some.ensures (means_at c.args.text.now.table.defs.now c.in-Within.caller.now.text.place))

pub returns-in-Some-clause-steps : goal.returns-in-Some-clause-steps
returns-in-Some-clause-steps c =
    steps_from c.args.text.now.table.defs.now c.args.text.now.here c.in-Within.caller.now.text (frames_of c.in-Within.caller.now.callers) (frames_of c.args.text.now.callers) (ap frames_of c.in-Within.is) c.args.place _
    (c.in-Some.ensures (means_at c.args.text.now.table.defs.now c.in-Within.caller.now.text.place))

-- or none there
pub returns-in-None-clause-tree : goal.returns-in-None-clause-tree
returns-in-None-clause-tree c =
    tree_from c.args.text.now.table.defs.now c.args.text.now.here c.in-Within.caller.now.text (frames_of c.in-Within.caller.now.callers) (frames_of c.args.text.now.callers) (ap frames_of c.in-Within.is) c.args.place None
    (c.in-None.ensures (means_at c.args.text.now.table.defs.now c.in-Within.caller.now.text.place))

-- or no text round it
pub returns-in-Outside-clause-tree : goal.returns-in-Outside-clause-tree
returns-in-Outside-clause-tree c = none_from c.args.text.now.table.defs.now c.args.text.now.here (frames_of c.args.text.now.callers) (ap frames_of c.in-Outside.is) c.args.place
