use Rattle.b_funsets.proofs.ArrowWords.{partial_surj_answers, partial_surj_members}
use Rattle.b_funsets.proofs.arrows.partial_surj.Goals as goal

pub returns-clause-value : goal.returns-clause-value
returns-clause-value c = partial_surj_answers _ _ _ c.functions_of.ensures.value

pub returns-clause-members : goal.returns-clause-members
returns-clause-members c = partial_surj_members _ _ _ c.functions_of.ensures.members
