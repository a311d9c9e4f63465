use Rattle.b_sets.proofs.IntervalLaws.{int_kept}
use Rattle.b_sets.proofs.numbers.card.Goals as goal

pub returns-clause-kept : goal.returns-clause-kept
returns-clause-kept c = int_kept _
