use Rattle.std.proofs.Common.{arith}
use Rattle.session_text.proofs.Brief.{moved_told}
use Rattle.session_text.proofs.replies.write_moved.Goals as goal

pub returns-in-Err : goal.returns-in-Err
returns-in-Err c = absurd (moved_told c.args.number c.new-out.result (omega arith) c.new-out.ensures c.in-Err.ensures.long)
