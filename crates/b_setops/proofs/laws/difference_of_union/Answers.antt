use Rattle.b_setops.specs.Laws.{difference_of_union}
use Rattle.b_setops.proofs.laws.difference_of_union.Goals as goal

pub returns : goal.returns
returns c = λ s t u v a b e f g. difference_of_union s t u v a b e f g
