-- By reading both back.
use Rattle.b_reading_back.proofs.Back.{one_canonical}
use Rattle.b_reading_back.proofs.Blind.{same_sort}
use Rattle.b_reading_back.proofs.one_canonical_text.Goals as goal

pub returns-clause-text : goal.returns-clause-text
returns-clause-text c = one_canonical

pub returns-clause-sort : goal.returns-clause-sort
returns-clause-sort c = same_sort
