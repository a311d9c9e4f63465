use Rattle.b_meaning.proofs.Kept.{kept_element}
use Rattle.b_meaning.proofs.parts.element.Goals as goal

pub returns-clause-kept : goal.returns-clause-kept
returns-clause-kept c = kept_element _ _
