use Rattle.b_rows.proofs.Kept.{kept_int}
use Rattle.b_rows.proofs.numbers.integer.Goals as goal

pub returns-in-Ok-clause-kept : goal.returns-in-Ok-clause-kept
returns-in-Ok-clause-kept c = kept_int _
