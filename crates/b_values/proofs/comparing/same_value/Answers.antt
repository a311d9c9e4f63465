use Rattle.b_values.specs.SameLaws.{told_value}
use Rattle.b_values.proofs.comparing.same_value.Goals as goal

pub returns-clause-equal : goal.returns-clause-equal
returns-clause-equal c = told_value _ _ _ c.eq.ensures
