use Rattle.b_funsets.proofs.ArrowWords.{partial_answers, partial_members}
use Rattle.b_funsets.proofs.arrows.partial.Goals as goal

pub returns-clause-value : goal.returns-clause-value
returns-clause-value c = partial_answers _ _ _ c.functions_of.ensures.value

pub returns-clause-members : goal.returns-clause-members
returns-clause-members c = partial_members _ _ _ c.functions_of.ensures.members
