use Rattle.std.proofs.Common.{List, map, sym, ap₂, ◌∙◌, subst}
use Rattle.ascending.specs.Ascending.{IsAscending}
use Rattle.b_values.specs.Values.{value_cmp}
use Rattle.b_values.specs.ValueLaws.{elements_ascend}
use Rattle.b_values.specs.declared.values.Value.{Value}
use Rattle.b_values.specs.declared.values.Value.TheVariants.{Set}
use Rattle.set_making.specs.Making.{set_with, Answers}
use Rattle.b_funsets.specs.Families.{couples, sublists}
use Rattle.b_funsets.proofs.CoupleLaws.{couples_ascend}
use Rattle.b_funsets.proofs.Refusals.{relations_refused, relations_kept, relations_members}
use Rattle.b_funsets.proofs.subsets.relations.Goals as goal

pub returns-then-not-is_product_within-clause-value : goal.returns-then-not-is_product_within-clause-value
returns-then-not-is_product_within-clause-value c = relations_refused _ _ _ _ c.members.ensures c.members-2.ensures
    (elements_ascend _ c.requires.left.value) (elements_ascend _ c.requires.right.value)
    (λ h. let t = c.if-not-is_product_within.ensures.1 h in cc)

pub all_subsets-requires : goal.all_subsets-requires
all_subsets-requires c = subst (IsAscending value_cmp)
    (sym (c.as_slice.ensures ∙ c.in-Ok.ensures ∙ ap₂ couples c.members-3.ensures c.members-4.ensures))
    (couples_ascend _ _ (elements_ascend _ c.requires.left.value) (elements_ascend _ c.requires.right.value))

pub returns-in-Ok-clause-kept : goal.returns-in-Ok-clause-kept
returns-in-Ok-clause-kept c = relations_kept _ _ _ c.requires.left c.requires.right
    (subst (λ (xs : List Value). Answers (set_with (map Set (sublists xs))) c.all_subsets.result)
    (c.as_slice.ensures ∙ c.in-Ok.ensures ∙ ap₂ couples c.members-3.ensures c.members-4.ensures) c.all_subsets.ensures)

pub returns-in-Ok-clause-members : goal.returns-in-Ok-clause-members
returns-in-Ok-clause-members c = relations_members _ _ _ c.requires.left c.requires.right
    (subst (λ (xs : List Value). Answers (set_with (map Set (sublists xs))) c.all_subsets.result)
    (c.as_slice.ensures ∙ c.in-Ok.ensures ∙ ap₂ couples c.members-3.ensures c.members-4.ensures) c.all_subsets.ensures)
