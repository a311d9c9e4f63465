use Rattle.std.proofs.Common.{subst, sym, length}
use Rattle.b_lex.specs.Fronts.{IsWithin}
use Rattle.b_lex.proofs.Within.{front_within}
use Rattle.b_lex.proofs.lexer.front_at.Goals as goal

pub returns-else-b-eq34-clause-within : goal.returns-else-b-eq34-clause-within
returns-else-b-eq34-clause-within c = subst (IsWithin (length c.args.text.now)) (sym c.plain_front.ensures) (front_within c.args.text.now c.requires)
