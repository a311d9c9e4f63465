use Rattle.b_funsets.proofs.ArrowWords.{total_inj_answers, total_inj_members}
use Rattle.b_funsets.proofs.arrows.total_inj.Goals as goal

pub returns-clause-value : goal.returns-clause-value
returns-clause-value c = total_inj_answers _ _ _ c.functions_of.ensures.value

pub returns-clause-members : goal.returns-clause-members
returns-clause-members c = total_inj_members _ _ _ c.functions_of.ensures.members
