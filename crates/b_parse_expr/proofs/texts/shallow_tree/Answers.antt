use Rattle.b_parse_expr.proofs.Judging.{checked_fault}
use Rattle.b_parse_expr.proofs.texts.shallow_tree.Goals as goal

pub returns-in-Err : goal.returns-in-Err
returns-in-Err c = checked_fault c.args.lexemes.now c.args.end c.in-Err.unread c.fault_of.result c.requires c.in-Err.ensures c.fault_of.ensures
