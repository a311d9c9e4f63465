use Rattle.b_funsets.proofs.ArrowWords.{total_answers, total_members}
use Rattle.b_funsets.proofs.arrows.total.Goals as goal

pub returns-clause-value : goal.returns-clause-value
returns-clause-value c = total_answers _ _ _ c.functions_of.ensures.value

pub returns-clause-members : goal.returns-clause-members
returns-clause-members c = total_members _ _ _ c.functions_of.ensures.members
