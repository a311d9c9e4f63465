use Rattle.std.proofs.Common.{ap, ◌∙◌}
use Rattle.b_relations.specs.Relations.{couples_in}
use Rattle.b_relations.proofs.IterateLaws.{ends_joined}
use Rattle.b_relations.proofs.Searching.{group_parts}
use Rattle.b_relations.proofs.Steps.{on_ok}
use Rattle.b_relations.proofs.iterating.push_compositions.Goals as goal

pub returns-in-Pair : goal.returns-in-Pair
returns-in-Pair c = on_ok c.push_ends.result (λ h. ends_joined c.args.m.now c.in-Pair.a c.in-Pair.b c.args.s.now c.couples_from.result.now c.args.found.now.items c.push_ends.new.found.items c.get.result.now c.get-in-Pair.result.now
    c.in-Pair.is c.get.ensures c.get-in-Pair.ensures h (ap couples_in c.couples_from.ensures ∙ group_parts c.get-in-Pair.result.now c.args.s.now)) c.push_ends.ensures
