use Rattle.b_summaries.proofs.Naming.{none_placed}
use Rattle.b_use_forms.proofs.bodies.text_alone.Goals as goal

-- a text without parameters has none
pub text_of-requires-clause-places : goal.text_of-requires-clause-places
text_of-requires-clause-places c = none_placed
