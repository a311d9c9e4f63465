use Rattle.std.proofs.Common.{ap, ◌∙◌, subst}
use Rattle.std.specs.List.{flat_map}
use Rattle.b_values.specs.Values.{elements}
use Rattle.set_making.specs.Making.{Answers, set_with}
use Rattle.b_sets.proofs.RowLaws.{big_union_law, big_union_kept}
use Rattle.b_sets.proofs.families.big_union.Goals as goal

pub returns-in-Ok-clause-kept : goal.returns-in-Ok-clause-kept
returns-in-Ok-clause-kept c = big_union_kept _ _ c.requires
    (subst (λ xs. Answers (set_with xs) c.set_with.result) (c.in-Ok.ensures ∙ ap (flat_map elements) c.members.ensures) c.set_with.ensures)

pub returns-in-Ok-clause-members : goal.returns-in-Ok-clause-members
returns-in-Ok-clause-members c = big_union_law _ _
    (subst (λ xs. Answers (set_with xs) c.set_with.result) (c.in-Ok.ensures ∙ ap (flat_map elements) c.members.ensures) c.set_with.ensures)
