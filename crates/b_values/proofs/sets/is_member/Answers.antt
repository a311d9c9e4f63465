use Rattle.b_values.specs.OrderLaws.{value_same}
use Rattle.b_values.proofs.sets.is_member.Goals as goal

pub is_member-requires-clause-one : goal.is_member-requires-clause-one
is_member-requires-clause-one c = value_same
