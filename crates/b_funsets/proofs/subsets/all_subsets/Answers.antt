use Rattle.std.proofs.Common.{sym, subst}
use Rattle.ascending.specs.Ascending.{IsAscending}
use Rattle.b_values.specs.Values.{value_cmp}
use Rattle.b_funsets.proofs.FamilyLaws.{subsets_ascend}
use Rattle.b_funsets.proofs.Refusals.{subsets_refused}
use Rattle.b_funsets.proofs.subsets.all_subsets.Goals as goal

pub returns-then-not-is_within : goal.returns-then-not-is_within
returns-then-not-is_within c = subsets_refused _ c.requires (λ h. let t = c.if-not-is_within.ensures.1 h in cc)

pub set_in_order-requires : goal.set_in_order-requires
set_in_order-requires c = subst (IsAscending value_cmp) (sym c.in-Ok.ensures) (subsets_ascend _ c.requires)
