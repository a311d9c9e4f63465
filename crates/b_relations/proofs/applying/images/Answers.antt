use Rattle.std.proofs.Common.{map, ap}
use Rattle.std.specs.List.{filter}
use Rattle.b_relations.specs.Parts.{begins_with}
use Rattle.b_relations.specs.Relations.{couples_in}
use Rattle.b_relations.proofs.Steps.{gather_step}
use Rattle.b_relations.proofs.applying.images.Goals as goal

pub loop-x-preserved : goal.loop-x-preserved
loop-x-preserved c = gather_step (λ x. map (λ p. p.1) (couples_in (filter (begins_with x) c.args.relation.now))) c.args.set.now c.loop-x.x-index c.x-item.result
    c.loop-x.found.items c.take_into.new.found.items (map (λ p. p.1) (couples_in c.couples_from.result.now)) _
    c.loop-x-test.true c.x-item.is c.in_ok-take_into.ensures (ap (λ l. map (λ p. p.1) (couples_in l)) c.couples_from.ensures) c.loop-x.invariant
