use Rattle.b_lex.proofs.OneReading.{one_row, one_fault, apart}
use Rattle.b_lex.proofs.lexer.one_reading.Goals as goal

pub returns-clause-tokens : goal.returns-clause-tokens
returns-clause-tokens c = one_row

pub returns-clause-fault : goal.returns-clause-fault
returns-clause-fault c = one_fault

pub returns-clause-apart : goal.returns-clause-apart
returns-clause-apart c = apart
