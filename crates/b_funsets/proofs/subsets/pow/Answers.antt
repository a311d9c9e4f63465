use Rattle.std.proofs.Common.{sym, subst, map, List}
use Rattle.ascending.specs.Ascending.{IsAscending}
use Rattle.b_values.specs.Values.{value_cmp}
use Rattle.b_values.specs.ValueLaws.{elements_ascend}
use Rattle.b_values.specs.declared.values.Value.{Value}
use Rattle.b_values.specs.declared.values.Value.TheVariants.{Set}
use Rattle.set_making.specs.Making.{set_with, Answers}
use Rattle.b_funsets.specs.Families.{sublists}
use Rattle.b_funsets.proofs.Refusals.{pow_kept, pow_members}
use Rattle.b_funsets.proofs.subsets.pow.Goals as goal

pub all_subsets-requires : goal.all_subsets-requires
all_subsets-requires c = subst (IsAscending value_cmp) (sym c.members.ensures) (elements_ascend _ c.requires.value)

pub returns-clause-kept : goal.returns-clause-kept
returns-clause-kept c = pow_kept _ _ c.requires (subst (λ (xs : List Value). Answers (set_with (map Set (sublists xs))) c.all_subsets.result) c.members.ensures c.all_subsets.ensures)

pub returns-clause-members : goal.returns-clause-members
returns-clause-members c = pow_members _ _ c.requires (subst (λ (xs : List Value). Answers (set_with (map Set (sublists xs))) c.all_subsets.result) c.members.ensures c.all_subsets.ensures)
