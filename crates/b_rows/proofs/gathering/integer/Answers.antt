use Rattle.b_rows.proofs.Kept.{kept_int}
use Rattle.b_rows.proofs.gathering.integer.Goals as goal

pub returns-clause-kept : goal.returns-clause-kept
returns-clause-kept c = kept_int _
