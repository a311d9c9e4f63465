use Rattle.std.proofs.Common.{ap, ◌∙◌, subst}
use Rattle.std.specs.Prelude.{slice_get}
use Rattle.std.specs.Option.{ok_or}
use Rattle.b_values.specs.declared.values.FaultKind.TheVariants.{IllDefined}
use Rattle.set_making.specs.Making.{Answers}
use Rattle.b_sets.proofs.RowLaws.{min_law, min_kept}
use Rattle.b_sets.proofs.numbers.min.Goals as goal

pub returns-clause-kept : goal.returns-clause-kept
returns-clause-kept c = min_kept _ _ c.requires
    (subst (λ o. Answers (ok_or o IllDefined) c.shared_or_ill_defined.result) (c.least.ensures ∙ ap (λ xs. slice_get xs 0) c.members.ensures) c.shared_or_ill_defined.ensures)

pub returns-clause-least : goal.returns-clause-least
returns-clause-least c = min_law _ _ c.requires
    (subst (λ o. Answers (ok_or o IllDefined) c.shared_or_ill_defined.result) (c.least.ensures ∙ ap (λ xs. slice_get xs 0) c.members.ensures) c.shared_or_ill_defined.ensures)
