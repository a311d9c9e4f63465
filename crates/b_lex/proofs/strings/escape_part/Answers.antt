use Rattle.std.proofs.Common.{refl, arith, sym, ap, ◌∙◌}
use Rattle.std.specs.Prelude.{is_some}
use Rattle.b_lex.proofs.Bodies.{escape}
use Rattle.b_lex.proofs.strings.escape_part.Goals as goal

pub returns-then-is_some : goal.returns-then-is_some
returns-then-is_some c = (refl, refl, escape c.args.after.now (omega arith) (sym (ap is_some c.escaped.ensures) ∙ sym c.is_some.ensures ∙ c.if-is_some.true), omega arith)
