use Rattle.b_meaning.proofs.Kept.{kept_int}
use Rattle.b_meaning.proofs.parts.whole_number.Goals as goal

pub returns-clause-kept : goal.returns-clause-kept
returns-clause-kept c = kept_int _
