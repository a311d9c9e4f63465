use Rattle.b_funsets.proofs.ArrowWords.{total_surj_answers, total_surj_members}
use Rattle.b_funsets.proofs.arrows.total_surj.Goals as goal

pub returns-clause-value : goal.returns-clause-value
returns-clause-value c = total_surj_answers _ _ _ c.functions_of.ensures.value

pub returns-clause-members : goal.returns-clause-members
returns-clause-members c = total_surj_members _ _ _ c.functions_of.ensures.members
