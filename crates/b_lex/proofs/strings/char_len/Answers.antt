use Rattle.std.proofs.Common.{subst, sym, arith}
use Rattle.std.specs.Str.{IsUtf8}
use Rattle.b_lex.proofs.Chars.{nothing, too_short, no_text, first}
use Rattle.b_lex.proofs.strings.char_len.Goals as goal

pub returns-in_default : goal.returns-in_default
returns-in_default c = nothing c.args.text.now (omega arith)

pub returns-then-n-text : goal.returns-then-n-text
returns-then-n-text c = too_short c.args.text.now c.char_width-n.result c.char_width-n.ensures.value c.if-n-text.true

pub returns-in-Ok : goal.returns-in-Ok
returns-in-Ok c = first c.args.text.now c.char_width-n.result c.char_width-n.ensures.value c.if-n-text.false (subst IsUtf8 c.split_at.ensures.front c.in-Ok.ensures.cases.1)

pub returns-in-Err : goal.returns-in-Err
returns-in-Err c = no_text c.args.text.now c.char_width-n.result c.char_width-n.ensures.value (λ u. c.in-Err.ensures.cases.0 (subst IsUtf8 (sym c.split_at.ensures.front) u))
