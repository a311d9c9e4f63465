use Rattle.b_values.specs.OrderLaws.{value_same}
use Rattle.b_values.proofs.sets.set_from.Goals as goal

pub make_ascending-requires : goal.make_ascending-requires
make_ascending-requires c = value_same
