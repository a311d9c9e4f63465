use Rattle.b_meaning.proofs.Kept.{kept_text}
use Rattle.b_meaning.proofs.parts.text.Goals as goal

pub returns-in-Ok-clause-kept : goal.returns-in-Ok-clause-kept
returns-in-Ok-clause-kept c = kept_text _
