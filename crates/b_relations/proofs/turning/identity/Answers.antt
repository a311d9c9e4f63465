use Rattle.std.proofs.Common.{◌≡◌, map, ap, ◌∙◌, subst}
use Rattle.ascending.specs.Ascending.{In}
use Rattle.b_values.specs.Values.{elements}
use Rattle.b_values.specs.declared.values.Value.TheVariants.{Pair}
use Rattle.set_making.specs.Making.{set_with, Answers}
use Rattle.set_making.specs.MakingLaws.{answers_kept}
use Rattle.b_relations.specs.Relations.{identity_members}
use Rattle.b_relations.proofs.Results.{answers_relation}
use Rattle.b_relations.proofs.RowLaws.{in_identity}
use Rattle.b_relations.proofs.RowValues.{identity_values}
use Rattle.b_relations.proofs.turning.identity.Goals as goal

pub returns-in-Ok-clause-kept : goal.returns-in-Ok-clause-kept
returns-in-Ok-clause-kept c = answers_kept (identity_members c.args.s.now) c.set_with.result (identity_values c.args.s.now c.requires.value)
    (subst (λ l. Answers (set_with l) c.set_with.result) (c.in-Ok.ensures ∙ ap (map (λ x. Pair x x)) c.members.ensures) c.set_with.ensures)

pub returns-in-Ok-clause-members : goal.returns-in-Ok-clause-members
returns-in-Ok-clause-members c = answers_relation (λ x y. (x ≡ y) × In x (elements c.args.s.now)) (identity_members c.args.s.now) c.set_with.result (in_identity c.args.s.now)
    (subst (λ l. Answers (set_with l) c.set_with.result) (c.in-Ok.ensures ∙ ap (map (λ x. Pair x x)) c.members.ensures) c.set_with.ensures)
