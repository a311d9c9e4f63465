use Rattle.b_funsets.proofs.ArrowWords.{bijections_answers, bijections_members}
use Rattle.b_funsets.proofs.arrows.bijections.Goals as goal

pub returns-clause-value : goal.returns-clause-value
returns-clause-value c = bijections_answers _ _ _ c.functions_of.ensures.value

pub returns-clause-members : goal.returns-clause-members
returns-clause-members c = bijections_members _ _ _ c.functions_of.ensures.members
