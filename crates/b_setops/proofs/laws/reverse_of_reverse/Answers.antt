use Rattle.b_setops.specs.Laws.{reverse_of_reverse}
use Rattle.b_setops.proofs.laws.reverse_of_reverse.Goals as goal

pub returns : goal.returns
returns c = λ s v h e. reverse_of_reverse s v h e
