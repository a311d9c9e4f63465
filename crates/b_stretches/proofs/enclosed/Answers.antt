use Rattle.std.proofs.Common.{sym}
use Rattle.b_stretches.specs.Stretches.{pieces, cut_at}
use Rattle.b_stretches.proofs.Pieces.{enclosed_read}
use Rattle.b_stretches.proofs.enclosed.Goals as goal

pub returns-then-is_word : goal.returns-then-is_word
returns-then-is_word c =
    enclosed_read
    c.args.opening
    (cut_at c.args.closing)
    (pieces c.args.s)
    (c.in-Some.word, c.in-Some.field-0-1.now)
    (pieces c.in-Some.more)
    c.ended.result
    c.in-Some.ensures
    (sym c.if-is_word.ensures)
    c.ended.ensures
