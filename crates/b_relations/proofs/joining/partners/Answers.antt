use Rattle.std.proofs.Common.{◌≡◌, sym, ap, ◌∙◌, subst}
use Rattle.std.specs.List.{filter}
use Rattle.b_relations.specs.Joining.{meets}
use Rattle.b_relations.specs.Relations.{couples_in}
use Rattle.b_relations.proofs.Searching.{group_parts}
use Rattle.b_relations.proofs.Steps.{all_pass}
use Rattle.b_relations.proofs.joining.partners.Goals as goal

pub returns-in-Compose : goal.returns-in-Compose
returns-in-Compose c = subst (λ how. couples_in c.couples_from.result.now ≡ filter (meets how (c.args.a.now, c.args.b.now)) (couples_in c.args.s.now)) (sym c.in-Compose.is)
    (ap couples_in c.couples_from.ensures ∙ group_parts c.args.b.now c.args.s.now)

pub returns-in-Direct : goal.returns-in-Direct
returns-in-Direct c = subst (λ how. couples_in c.couples_from-in-Direct.result.now ≡ filter (meets how (c.args.a.now, c.args.b.now)) (couples_in c.args.s.now)) (sym c.in-Direct.is)
    (ap couples_in c.couples_from-in-Direct.ensures ∙ group_parts c.args.a.now c.args.s.now)

pub returns-in-Parallel : goal.returns-in-Parallel
returns-in-Parallel c = subst (λ how. couples_in c.args.s.now ≡ filter (meets how (c.args.a.now, c.args.b.now)) (couples_in c.args.s.now)) (sym c.in-Parallel.is)
    (sym (all_pass (couples_in c.args.s.now)))
