use Rattle.std.proofs.Common.{◌≡◌, length}
use Rattle.b_parse_expr.specs.Parsing.{is_deep}
use Rattle.b_parse_expr.proofs.texts.first_deep.Given as goal

-- the lexemes that are left decide
abbrev pub invariant-loop-lexeme : goal.invariant-loop-lexeme
invariant-loop-lexeme l = is_deep l.left ≡ is_deep l.lexemes

abbrev pub decreases-loop-lexeme : goal.decreases-loop-lexeme
decreases-loop-lexeme l = length l.left
