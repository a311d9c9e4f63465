use Rattle.std.proofs.Common.{ap, ◌∙◌, subst, length, ◌-◌}
use Rattle.std.specs.Prelude.{slice_get}
use Rattle.std.specs.Option.{ok_or}
use Rattle.b_values.specs.declared.values.FaultKind.TheVariants.{IllDefined}
use Rattle.set_making.specs.Making.{Answers}
use Rattle.b_sets.proofs.RowLaws.{max_law, max_kept}
use Rattle.b_sets.proofs.numbers.max.Goals as goal

pub returns-clause-kept : goal.returns-clause-kept
returns-clause-kept c = max_kept _ _ c.requires
    (subst (λ o. Answers (ok_or o IllDefined) c.shared_or_ill_defined.result) (c.greatest.ensures ∙ ap (λ xs. slice_get xs (length xs - 1)) c.members.ensures) c.shared_or_ill_defined.ensures)

pub returns-clause-greatest : goal.returns-clause-greatest
returns-clause-greatest c = max_law _ _ c.requires
    (subst (λ o. Answers (ok_or o IllDefined) c.shared_or_ill_defined.result) (c.greatest.ensures ∙ ap (λ xs. slice_get xs (length xs - 1)) c.members.ensures) c.shared_or_ill_defined.ensures)
