use Rattle.b_setops.specs.Laws.{domain_of_converse}
use Rattle.b_setops.proofs.laws.domain_of_converse.Goals as goal

pub returns : goal.returns
returns c = λ r k e. domain_of_converse r k e
