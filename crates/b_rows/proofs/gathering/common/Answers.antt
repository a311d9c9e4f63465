use Rattle.ascending.specs.Ascending.{In}
use Rattle.ascending.specs.Members.{all_in, in_at}
use Rattle.b_values.specs.ValueLaws.{elements_are_values}
use Rattle.b_values.specs.Values.{IsValue}
use Rattle.std.proofs.Common.{arith, sym, subst}
use Rattle.b_rows.proofs.Kept.{filtered_values}
use Rattle.b_rows.proofs.gathering.common.Goals as goal

pub gather-requires : goal.gather-requires
gather-requires c =
    let first = all_in IsValue c.args.sets.now c.requires c.first-item.result
    (subst (λ w. In w c.args.sets.now) (sym c.first-item.is) (in_at c.args.sets.now 0 c.first-item.result (let h = c.in-len1-up.len_at_least in omega arith))) in
    filtered_values _ c.members.result.now _ c.in-Ok.ensures (rw c.members.ensures (elements_are_values c.first-item.result first))
