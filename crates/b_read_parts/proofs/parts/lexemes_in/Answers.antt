use Rattle.std.proofs.Common.{sym}
use Rattle.b_read_parts.proofs.Forms.{lexemes_of}
use Rattle.b_read_parts.proofs.parts.lexemes_in.Goals as goal

pub returns : goal.returns
returns c = rw (c.split_at.ensures.front, c.count_of.ensures) (sym (lexemes_of c.args.s.words.now c.args.s.lexemes.now))
