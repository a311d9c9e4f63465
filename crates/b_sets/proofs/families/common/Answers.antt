use Rattle.std.proofs.Common.{arith, sym, subst}
use Rattle.ascending.specs.Ascending.{In, IsAscending}
use Rattle.ascending.specs.Members.{all_in, in_at}
use Rattle.b_values.specs.ValueLaws.{elements_ascend}
use Rattle.b_values.specs.Values.{IsValue, value_cmp}
use Rattle.set_making.specs.ListMembers.{filter_ascends}
use Rattle.b_sets.proofs.families.common.Goals as goal

pub set_in_order-requires : goal.set_in_order-requires
set_in_order-requires c =
    let first = all_in IsValue c.args.sets.now c.requires c.first-item.result
    (subst (λ w. In w c.args.sets.now) (sym c.first-item.is) (in_at c.args.sets.now 0 c.first-item.result (let h = c.in-len1-up.len_at_least in omega arith))) in
    subst (IsAscending value_cmp) (sym c.in-Ok.ensures) (filter_ascends value_cmp _ c.members.result.now (rw c.members.ensures (elements_ascend _ first)))
