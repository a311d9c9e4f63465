use Rattle.b_setops.specs.Laws.{size_of_join}
use Rattle.b_setops.proofs.laws.size_of_join.Goals as goal

pub returns : goal.returns
returns c = λ s t v m n e f g. size_of_join s t v m n e f g
