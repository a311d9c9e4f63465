use Rattle.b_places.proofs.Going.{entered_found, entered_less}
use Rattle.b_places.proofs.walk.enter.Goals as goal

pub returns-clause-found : goal.returns-clause-found
returns-clause-found c = entered_found c.args.count c.args.walk.now c.push_range.new.walk c.go_on.new.walk c.args.range c.push_range.ensures.values c.in_ok-push_range.ensures.ranges c.push_range.ensures.fresh c.requires.asks c.go_on.result c.go_on.ensures.found

pub returns-clause-work : goal.returns-clause-work
returns-clause-work c = entered_less c.args.count c.args.walk.now c.push_range.new.walk c.go_on.new.walk c.args.range c.push_range.ensures.values c.in_ok-push_range.ensures.ranges c.push_range.ensures.fresh c.requires.asks c.go_on.result c.go_on.ensures.work
