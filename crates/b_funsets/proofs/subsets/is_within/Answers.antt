use Rattle.b_funsets.proofs.Refusals.{many_subsets}
use Rattle.b_funsets.proofs.subsets.is_within.Goals as goal

pub returns-then-members-gt20 : goal.returns-then-members-gt20
returns-then-members-gt20 c = (λ h. absurd (cc), λ h. absurd (many_subsets _ _ _ c.if-members-gt20.true c.requires h))
