use Rattle.std.proofs.Common.{map, ◌++◌, ap, ◌∙◌}
use Rattle.b_relations.specs.Relations.{couples_in}
use Rattle.b_relations.proofs.IterateLaws.{standing_made}
use Rattle.b_relations.proofs.iterating.standing.Goals as goal

pub returns : goal.returns
returns c = standing_made (couples_in c.args.relation.now) c.take_into.new.found.items c.as_slice.result.now c.in_ok-twins.field-0.items c.set_from.result
    (c.in_ok-take_into.ensures ∙ ap (λ l. l ++ map (λ p. p.1) (couples_in c.args.relation.now)) c.in_ok-found.ensures)
    (c.as_slice.ensures ∙ c.set_from-field.ensures.set) c.in_ok-twins.ensures c.set_from.ensures.set
