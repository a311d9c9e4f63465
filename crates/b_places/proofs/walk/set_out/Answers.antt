use Rattle.std.proofs.Common.{refl, false}
use Rattle.b_places.proofs.Going.{first_found, left_found}
use Rattle.b_places.proofs.walk.set_out.Goals as goal

pub returns-then-walk-clause-found : goal.returns-then-walk-clause-found
returns-then-walk-clause-found c =
    first_found c.args.count c.args.walk.now (record { values = c.args.walk.now.values; ranges = c.args.walk.now.ranges; number = c.args.walk.now.number; fresh = false }) c.whole_or_asks.result
    c.requires.rests c.if-walk.true refl refl refl c.whole_or_asks.ensures

pub returns-else-walk-clause-found : goal.returns-else-walk-clause-found
returns-else-walk-clause-found c = left_found c.args.count c.args.walk.now c.go_back.new.walk c.go_on.new.walk c.go_on.result c.requires.rests c.if-walk.false c.go_back.ensures.values c.go_back.ensures.ranges c.go_back.ensures.fresh c.go_on.ensures.found
