use Rattle.b_meaning.proofs.Kept.{kept_truth}
use Rattle.b_meaning.proofs.parts.truth_value.Goals as goal

pub returns-clause-kept : goal.returns-clause-kept
returns-clause-kept c = kept_truth _
