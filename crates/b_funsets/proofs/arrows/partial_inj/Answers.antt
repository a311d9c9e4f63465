use Rattle.b_funsets.proofs.ArrowWords.{partial_inj_answers, partial_inj_members}
use Rattle.b_funsets.proofs.arrows.partial_inj.Goals as goal

pub returns-clause-value : goal.returns-clause-value
returns-clause-value c = partial_inj_answers _ _ _ c.functions_of.ensures.value

pub returns-clause-members : goal.returns-clause-members
returns-clause-members c = partial_inj_members _ _ _ c.functions_of.ensures.members
