use Rattle.std.proofs.Common.{Err, ◌∙◌, ap}
use Rattle.b_stretches.specs.Stretches.{pieces}
use Rattle.b_read_parts.proofs.Forms.{unread_none}
use Rattle.b_read_parts.proofs.parts.written.Goals as goal

pub returns-in-Ok : goal.returns-in-Ok
returns-in-Ok c = rw c.lexemes_in.ensures at c.in-Ok.ensures

pub returns-in-Err-NoTree : goal.returns-in-Err-NoTree
returns-in-Err-NoTree c =
    unread_none (pieces c.args.s) c.lexemes_in.result.now c.tree_of.result c.in-Err-NoTree.field-0 c.in-Err-NoTree.left c.stuck_before.result c.lexemes_in.ensures c.in-Err-NoTree.is c.in-Err-NoTree.field-0-is c.tree_of.ensures c.stuck_before.ensures
