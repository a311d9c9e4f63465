use Rattle.b_lex.proofs.Spelled.{tokens_spelled, tokens_span}
use Rattle.b_lex.proofs.lexer.spelled_tokens.Goals as goal

pub returns-clause-spelled : goal.returns-clause-spelled
returns-clause-spelled c = tokens_spelled

pub returns-clause-spans : goal.returns-clause-spans
returns-clause-spans c = tokens_span
