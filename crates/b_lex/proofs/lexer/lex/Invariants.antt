use Rattle.std.proofs.Common.{◌-◌, length}
use Rattle.b_lex.proofs.Rows.{ReadTo}
use Rattle.b_lex.proofs.lexer.lex.Given as goal

-- these are the tokens so far
abbrev pub invariant-fronts : goal.invariant-fronts
invariant-fronts l = ReadTo l.text l.at l.tokens.items

abbrev pub decreases-fronts : goal.decreases-fronts
decreases-fronts l = length l.text - l.at
