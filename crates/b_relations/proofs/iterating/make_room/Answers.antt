use Rattle.b_values.specs.OrderLaws.{value_same}
use Rattle.b_relations.proofs.IterateLaws.{set_members}
use Rattle.b_relations.proofs.iterating.make_room.Goals as goal

pub make_ascending-requires : goal.make_ascending-requires
make_ascending-requires c = value_same

pub returns : goal.returns
returns c = set_members c.args.found.now.items c.make_ascending.new.items.items c.make_ascending.ensures.set
