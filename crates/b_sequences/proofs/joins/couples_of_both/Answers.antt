use Rattle.b_sequences.proofs.Steps.{two_lists}
use Rattle.b_sequences.proofs.joins.couples_of_both.Goals as goal

pub returns-in_ok-with_parts-in-Some-Some : goal.returns-in_ok-with_parts-in-Some-Some
returns-in_ok-with_parts-in-Some-Some c = two_lists _ _ _ _ _ c.in-Some-Some.ensures c.in-Some-Some.ensures' c.in_ok-with_parts-in-Some-Some.ensures
