use Rattle.session_text.proofs.Brief.{brief_told}
use Rattle.session_text.proofs.replies.write_reply.Goals as goal

pub returns-in-Err-clause-brief : goal.returns-in-Err-clause-brief
returns-in-Err-clause-brief c = λ brief. absurd (brief_told c.args.face.now c.args.reply.now c.new-out.result c.new-out.ensures c.in-Err.ensures.long brief)
